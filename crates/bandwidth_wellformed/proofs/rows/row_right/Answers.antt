use mathlib.Core.Path.{◌≡◌, sym}
use mathlib.Core.Bool.{◌&&◌}
use mathlib.Core.List.{List}
use Prim.Native.Nat.{ℕ, ◌+◌, ◌-◌, ◌/◌, ◌%◌, ◌^◌}
use native.Mathlib.Omega.{arith}
use lib.Bits.{bit_and, bit_or}
use lib.Dec.{eqb}
use lib.ListN.{get_or}
use Rattle.tables.specs.View.{union_below}
use Rattle.tables.proofs.Union.{union_none, union_next}
use Rattle.bandwidth_wellformed.specs.Bits.{mark_at, lacking, sharing_bits, absent_at, differing, weight_bits, row_right}
use Rattle.bandwidth_wellformed.proofs.Bits.{or_ge_r}
use Rattle.bandwidth_wellformed.proofs.rows.row_right.Goals as goal

-- the test over what the loop leaves
steps : (na base m some less : ℕ) (t : List ℕ) → m ≡ union_below na (mark_at t base) → some ≡ union_below na (λ k. get_or t (base + k) 0) → less ≡ union_below na (absent_at t base)
    → (eqb (bit_or (m % 65536) (bit_or (m / 2 ^ 16) 1) - bit_or (m / 2 ^ 16) 1) 0 && eqb (bit_and (bit_and some less) 0x0ff00000) 0) ≡ row_right na t base
unfolding row_right sharing_bits lacking weight_bits differing
steps na base m some less t d e f = cc

pub loop-a-init : goal.loop-a-init
loop-a-init g c = (sym (union_none _), (sym (union_none _), sym (union_none _)))

pub loop-a-preserved : goal.loop-a-preserved
unfolding mark_at absent_at
loop-a-preserved g c = (rw union_next (cc), (rw union_next (cc), rw union_next (cc)))

pub overflow_sub-result : goal.overflow_sub-result
overflow_sub-result g c = search or_ge_r

pub returns : goal.returns
returns g c =
    let l = c.loop-a in
    let e : l.a ≡ g.row.NA = omega arith in
    steps g.row.NA c.args.base _ _ _ c.args.t.now (rw e at l.invariant.0) (rw e at l.invariant.1.0) (rw e at l.invariant.1.1)
