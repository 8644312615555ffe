use mathlib.Core.Path.{◌≡◌}
use Prim.Native.Nat.{◌*◌, ◌≤◌}
use Rattle.bandwidth_setup.specs.View.{setup_of}
use Rattle.bandwidth_model.specs.Waiters.{weights_below}
use Rattle.bandwidth_waiters.proofs.service.weights_of.Given as goal

abbrev pub invariant-loop-rcid : goal.invariant-loop-rcid
invariant-loop-rcid l = (l.sum ≡ weights_below (setup_of l.setup) l.active l.waiters l.rcid) × (l.sum ≤ l.rcid * 255)
