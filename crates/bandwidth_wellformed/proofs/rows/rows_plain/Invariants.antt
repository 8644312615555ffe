use mathlib.Core.Path.{◌≡◌}
use Prim.Native.Nat.{◌*◌}
use Rattle.tables.specs.Below.{all_below}
use Rattle.bandwidth_wellformed.specs.Bits.{row_plain}
use Rattle.bandwidth_wellformed.proofs.rows.rows_plain.Given as goal

abbrev pub invariant-loop-r : goal.invariant-loop-r
invariant-loop-r g l = l.ok ≡ all_below l.r (λ k. row_plain g.row.NA l.t (k * g.row.NA))
