use mathlib.Core.Path.{◌≡◌}
use Rattle.bandwidth_setup.specs.View.{setup_of}
use Rattle.bandwidth_waiters.specs.Turns.{tables, turns}
use Rattle.bandwidth_waiters.proofs.service.serve_all.Given as goal

abbrev pub invariant-loop-rcid : goal.invariant-loop-rcid
invariant-loop-rcid l =
    tables l.used l.pool l.counters l.waiters ≡ turns (setup_of l.setup) l.active l.events l.size l.weights (tables l.initial.used 0 l.initial.counters l.initial.waiters) l.rcid
