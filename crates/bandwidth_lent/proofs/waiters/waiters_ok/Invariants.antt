use mathlib.Core.Path.{◌≡◌}
use Prim.Native.Nat.{◌/◌}
use lib.ListN.{length, get_or}
use Rattle.tables.specs.Below.{all_below}
use Rattle.words.specs.Words.{table_of}
use Rattle.bandwidth_model.specs.Waiters.{waiter_ok}
use Rattle.bandwidth_setup.specs.View.{setup_of}
use Rattle.bandwidth_lent.proofs.waiters.waiters_ok.Given as goal

abbrev pub invariant-loop-i : goal.invariant-loop-i
invariant-loop-i l =
    (l.i-end ≡ length l.t / 8) × (l.ok ≡ all_below l.i (λ k. waiter_ok (setup_of l.setup) (get_or (table_of 8 l.t) k 0)))
