use mathlib.Core.Path.{◌≡◌}
use Prim.Native.Nat.{◌*◌, ◌/◌, ◌≤◌}
use lib.ListN.{length}
use Rattle.words.specs.Words.{table_of}
use Rattle.bandwidth_setup.specs.View.{setup_of}
use Rattle.bandwidth_model.specs.Waiters.{weights_below}
use Rattle.bandwidth_service.proofs.weights_of.Given as goal

abbrev pub invariant-loop-rcid : goal.invariant-loop-rcid
invariant-loop-rcid l =
    (l.rcid-end ≡ length l.waiters / 8) × ((l.sum ≡ weights_below (setup_of l.setup) (table_of 4 l.active) (table_of 8 l.waiters) l.rcid) × (l.sum ≤ l.rcid * 255))
