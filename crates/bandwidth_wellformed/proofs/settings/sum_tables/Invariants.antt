use Prim.Native.Nat.{◌≤◌, ◌-◌}
use Rattle.bandwidth_wellformed.specs.Tables.{Summed}
use Rattle.bandwidth_wellformed.proofs.settings.sum_tables.Given as goal

abbrev pub invariant-loop-r : goal.invariant-loop-r
invariant-loop-r l = (l.r ≤ l.nr) × Summed l.na l.q l.active l.configured l.used l.r l.sums

abbrev pub decreases-loop-r : goal.decreases-loop-r
decreases-loop-r l = l.nr - l.r
