use mathlib.Core.Path.{◌≡◌}
use Prim.Native.Nat.{ℕ, ◌≤◌, ◌<◌}
use lib.ListN.{length, get_or}
use Rattle.words.specs.Words.{table_of}
use Rattle.unit_tables.proofs.Flushing.{owners_to, counters_to}
use Rattle.unit_bytes.proofs.flush.Given as goal

-- the first i units are flushed
abbrev pub invariant-loop-i : goal.invariant-loop-i
invariant-loop-i l = record {
  within : l.i ≤ l.i-end;
  whole : l.i-end ≡ length (table_of 4 l.initial.owners);
  owners_long : length l.owners ≡ length l.initial.owners;
  counters_long : length l.counters ≡ length l.initial.counters;
  owners_fit : (j : ℕ) → get_or l.owners j 0 < 256;
  counters_fit : (j : ℕ) → get_or l.counters j 0 < 256;
  owners_are : table_of 4 l.owners ≡ owners_to l.rcid l.i (table_of 4 l.initial.owners);
  counters_are : table_of 8 l.counters ≡ counters_to (table_of 2 l.events) l.rcid l.i (table_of 4 l.initial.owners) (table_of 8 l.initial.counters);
}
