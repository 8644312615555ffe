use mathlib.Core.Path.{◌≡◌}
use Prim.Native.Nat.{◌-◌, ◌/◌, ◌≤◌}
use lib.ListN.{length, get_or}
use Rattle.words.specs.Words.{table_of}
use Rattle.unit_tables.specs.Seen.{SeenBelow}
use Rattle.unit_bytes.proofs.owners_ok.Given as goal

abbrev pub invariant-loop-i : goal.invariant-loop-i
invariant-loop-i l =
    ((l.i-end ≡ length l.owners / 4) × (l.i ≤ l.i-end)) × SeenBelow l.nr l.nm l.na l.i (λ j. get_or (table_of 4 l.owners) j 0) l.seen

abbrev pub decreases-loop-i : goal.decreases-loop-i
decreases-loop-i l = l.i-end - l.i
