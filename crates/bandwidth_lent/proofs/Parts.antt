-- Words of a part of a table that were loaded into an array.
use mathlib.Core.Path.{◌≡◌, sym, ◌∙◌}
use mathlib.Core.List.{List}
use Prim.Native.Nat.{ℕ, ◌+◌, ◌-◌, ◌*◌, ◌≤◌, ◌<◌}
use native.Mathlib.Omega.{arith}
use lib.ListN.{length, get_or, take, drop}
use Rattle.tables.specs.Parts.{part}
use Rattle.words.specs.Words.{word_of, table_of}
use Rattle.words.proofs.Parts.{entries, entry_in}
use Rattle.tables.proofs.Parts.{part_at, part_length}
use Rattle.bandwidth_wellformed.specs.Bits.{SpanAt}
use Rattle.bandwidth_wellformed.specs.Tables.{Rows, Summed}
use Rattle.bandwidth_wellformed.specs.declared.settings.Sums.{Sums}
use Rattle.bandwidth_lent.specs.View.{PartIn}

-- as many words as a part has
pub part_words : (from n : ℕ) (bytes : List ℕ) → (from + n) * 4 ≤ length bytes → length (part from n (table_of 4 bytes)) ≡ n
part_words from n bytes h = part_length (table_of 4 bytes) from n (omega (arith, h, entries 4 bytes))

-- the word at i of a part
pub word_in : (from n i w : ℕ) (bytes : List ℕ) → (from + n) * 4 ≤ length bytes → i < n → w ≡ word_of (take 4 (drop ((from + i) * 4) bytes)) → w ≡ get_or (part from n (table_of 4 bytes)) i 0
word_in from n i w bytes h l e = entry_in 4 bytes (from + i) w (omega (arith, h)) e ∙ sym (part_at (table_of 4 bytes) from n i l)

-- what is said of the words is said of the part
module _ {na q n : ℕ} {a c u a' c' u' : List ℕ} (x : a ≡ a') (y : c ≡ c') (z : u ≡ u') where
  pub rows_loaded : Rows na q n a' c' u' → Rows na q n a c u
  rows_loaded w = rw (x, y, z) w

  pub summed_loaded : {s : Sums} → Summed na q a c u n s → Summed na q a' c' u' n s
  summed_loaded w = rw (← x, ← y, ← z) w

-- a span lies in the tables
pub span_in : {na nr r next from to : ℕ} {active configured used : List ℕ} → SpanAt na nr r next from to → PartIn active configured used 0 (nr * na)
    → PartIn active configured used from (to - from)
span_in s p = record {
  active_in = omega (arith, s.order, s.end, p.active_in);
  configured_in = omega (arith, s.order, s.end, p.configured_in);
  used_in = omega (arith, s.order, s.end, p.used_in);
}
