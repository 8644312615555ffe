use mathlib.Core.Path.{◌≡◌}
use Prim.Native.Nat.{◌-◌, ◌/◌, ◌≤◌}
use lib.ListN.{length, get_or}
use Rattle.tables.specs.Below.{all_below}
use Rattle.words.specs.Words.{table_of}
use Rattle.monitor.specs.Monitor.{setting_ok}
use Rattle.monitor_bytes.proofs.events_ok.Given as goal

abbrev pub invariant-loop-i : goal.invariant-loop-i
invariant-loop-i l =
    ((l.words ≡ length l.t / 2) × (l.i ≤ l.words)) × (l.ok ≡ all_below l.i (λ k. setting_ok l.na l.resource (get_or (table_of 2 l.t) k 0)))

abbrev pub decreases-loop-i : goal.decreases-loop-i
decreases-loop-i l = l.words - l.i
