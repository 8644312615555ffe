use mathlib.Core.Path.{◌≡◌}
use Rattle.words.specs.Words.{table_of}
use Rattle.bandwidth_setup.specs.View.{setup_of}
use Rattle.bandwidth_waiters.specs.Turns.{turns}
use Rattle.bandwidth_service.specs.Service.{tables_in, Words}
use Rattle.bandwidth_service.proofs.serve_all.Given as goal

abbrev pub invariant-loop-rcid : goal.invariant-loop-rcid
invariant-loop-rcid l =
    (l.rcid-end ≡ l.setup.nr)
    × ((tables_in l.used l.pool l.counters l.waiters ≡ turns (setup_of l.setup) (table_of 4 l.active) (table_of 2 l.events) l.size l.weights (tables_in l.initial.used 0 l.initial.counters l.initial.waiters) l.rcid)
    × Words l.used l.counters l.events l.waiters)
