use mathlib.Core.Path.{◌≡◌}
use Prim.Native.Nat.{◌+◌}
use lib.ListN.{get_or}
use Rattle.tables.specs.View.{union_below}
use Rattle.bandwidth_wellformed.specs.Bits.{absent_at}
use Rattle.bandwidth_wellformed.proofs.rows.row_plain.Given as goal

abbrev pub invariant-loop-a : goal.invariant-loop-a
invariant-loop-a g l =
    (l.some ≡ union_below l.a (λ k. get_or l.t (l.base + k) 0)) × (l.less ≡ union_below l.a (absent_at l.t l.base))
