use mathlib.Core.Path.{◌≡◌}
use Rattle.unit_tables.proofs.Flushing.{owners_to, counters_to}
use Rattle.unit_tables.proofs.flush.Given as goal

-- the units before this one are flushed
abbrev pub invariant-loop-owner : goal.invariant-loop-owner
invariant-loop-owner l = record {
  owners_are : l.owners ≡ owners_to l.rcid l.owner-index l.initial.owners;
  counters_are : l.counters ≡ counters_to l.events l.rcid l.owner-index l.initial.owners l.initial.counters;
}
