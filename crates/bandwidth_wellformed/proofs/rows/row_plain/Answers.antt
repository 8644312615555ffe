use mathlib.Core.Path.{◌≡◌, refl, sym}
use mathlib.Core.Bool.{not, ◌&&◌, ◌||◌}
use mathlib.Core.List.{List}
use Prim.Native.Nat.{ℕ, ◌+◌, ◌/◌, ◌%◌, ◌^◌}
use native.Mathlib.Omega.{arith}
use lib.Bits.{bit_and}
use lib.Dec.{eqb}
use lib.ListN.{get_or}
use Rattle.tables.specs.View.{union_below}
use Rattle.tables.proofs.Union.{union_none, union_next}
use Rattle.bandwidth_wellformed.specs.Bits.{absent_at, differing, weight_bits, row_plain}
use Rattle.bandwidth_wellformed.proofs.rows.row_plain.Goals as goal

-- the test over what the loop leaves
steps : (na base some less first : ℕ) (t : List ℕ) → some ≡ union_below na (λ k. get_or t (base + k) 0) → less ≡ union_below na (absent_at t base) → first ≡ get_or t base 0
    → (eqb (bit_and (bit_and some less) 0x0ff00000) 0 && (not (eqb (first % 65536) 0) || eqb (some / 2 ^ 28) 0)) ≡ row_plain na t base
unfolding row_plain weight_bits differing
steps na base some less first t e f g = cc

pub loop-a-init : goal.loop-a-init
loop-a-init g c = (sym (union_none _), sym (union_none _))

pub loop-a-preserved : goal.loop-a-preserved
unfolding absent_at
loop-a-preserved g c = (rw union_next (cc), rw union_next (cc))

pub returns : goal.returns
returns g c =
    let l = c.loop-a in
    let e : l.a ≡ g.row.NA = omega arith in
    steps g.row.NA c.args.base _ _ _ c.args.t.now (rw e at l.invariant.0) (rw e at l.invariant.1) refl
