use lib.ListN.{get_or}
use Rattle.unit_tables.specs.Seen.{SeenBelow}
use Rattle.unit_tables.proofs.checks.owners_ok.Given as goal

abbrev pub invariant-loop-owner : goal.invariant-loop-owner
invariant-loop-owner l = SeenBelow l.nr l.nm l.na l.owner-index (λ j. get_or l.owners j 0) l.seen
