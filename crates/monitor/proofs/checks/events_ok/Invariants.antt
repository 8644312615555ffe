use mathlib.Core.Path.{◌≡◌}
use Rattle.tables.specs.View.{union_below}
use Rattle.monitor.proofs.Forms.{bad_at}
use Rattle.monitor.proofs.checks.events_ok.Given as goal

abbrev pub invariant-loop-s : goal.invariant-loop-s
invariant-loop-s l = l.bits ≡ union_below l.s-index (bad_at l.na l.resource l.t)
