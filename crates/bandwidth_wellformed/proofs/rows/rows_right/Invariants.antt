use mathlib.Core.Path.{◌≡◌}
use Rattle.tables.specs.Below.{all_below}
use Rattle.bandwidth_wellformed.specs.Bits.{right_at}
use Rattle.bandwidth_wellformed.proofs.rows.rows_right.Given as goal

abbrev pub invariant-loop-r : goal.invariant-loop-r
invariant-loop-r g l = l.ok ≡ all_below l.r (right_at g.row.NA l.t)
