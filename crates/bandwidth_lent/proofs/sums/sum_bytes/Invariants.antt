use Prim.Native.Nat.{◌≤◌, ◌-◌}
use Rattle.words.specs.Words.{table_of}
use Rattle.bandwidth_wellformed.specs.Tables.{Summed}
use Rattle.bandwidth_lent.proofs.sums.sum_bytes.Given as goal

abbrev pub invariant-loop-r : goal.invariant-loop-r
invariant-loop-r l =
    (l.r ≤ l.nr) × Summed l.na l.q (table_of 4 l.active) (table_of 4 l.configured) (table_of 4 l.used) l.r l.sums

abbrev pub decreases-loop-r : goal.decreases-loop-r
decreases-loop-r l = l.nr - l.r
