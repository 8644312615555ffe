-- What the passes over a table find: bits that are all 0 where nothing is wrong.
use Rattle.std.specs.Prelude.{ℕ, ◌+◌, ◌-◌, ◌*◌, ◌/◌, ◌%◌, ◌^◌, ◌≤◌, ◌<◌, Bool, not, cond, ◌&&◌, ◌||◌, ◌≡◌, List, leb, eqb, get_or}
use Rattle.std.specs.Int.Bits.{bit_and, bit_or, bit_xor}
use Rattle.tables.specs.Below.{sum_below}
use Rattle.tables.specs.View.{union_below}

-- the bits of a settings word that may not be there: unnamed ones, the Mweight of a word with no Rbwb, useShared and sharedAT beside an Rbwb
unfoldable pub form_bits : ℕ → ℕ
form_bits w = bit_and w (cond (eqb (w % 65536) 0) 0x0fffffff 0xf00f0000)

unfoldable pub form_at : List ℕ → ℕ → ℕ
form_at t i = form_bits (get_or t i 0)

-- Rbwb of the word at i
unfoldable pub blocks_at : List ℕ → ℕ → ℕ
blocks_at t i = get_or t i 0 % 65536

-- what the word w at AT a says of its row: bit 24 + a, that it has blocks; bit 8 + s, that it shares AT s; bit s, that it names AT s and does not share
unfoldable pub mark : ℕ → ℕ → ℕ
mark a w = bit_or (cond (not (eqb (w % 65536) 0)) (16777216 * 2 ^ a) 0) (2 ^ (w / 2 ^ 28))

unfoldable pub mark_at : List ℕ → ℕ → ℕ → ℕ
mark_at t base a = mark a (get_or t (base + a) 0)

-- the bits 15:1 of m that its bits from 16 on lack
unfoldable pub lacking : ℕ → ℕ
lacking m = bit_or (m % 65536) (bit_or (m / 2 ^ 16) 1) - bit_or (m / 2 ^ 16) 1

-- the ATs of the row from base on that are shared and have no blocks, or named and not shared
unfoldable pub sharing_bits : ℕ → List ℕ → ℕ → ℕ
sharing_bits na t base = lacking (union_below na (mark_at t base))

-- the bits of Mweight that a word with blocks lacks, and its other bits
unfoldable pub absent : ℕ → ℕ
absent w = cond (not (eqb (w % 65536) 0)) (bit_xor w 0x0ff00000) 0

unfoldable pub absent_at : List ℕ → ℕ → ℕ → ℕ
absent_at t base a = absent (get_or t (base + a) 0)

-- the bits of Mweight that are in both
unfoldable pub differing : ℕ → ℕ → ℕ
differing some less = bit_and (bit_and some less) 0x0ff00000

-- the bits of Mweight that the row from base on has, and a word with blocks in it lacks
unfoldable pub weight_bits : ℕ → List ℕ → ℕ → ℕ
weight_bits na t base = differing (union_below na (λ a. get_or t (base + a) 0)) (union_below na (absent_at t base))

-- in the row from base on, every AT that is named is shared and has blocks, and the words with blocks have one Mweight
unfoldable pub row_right : ℕ → List ℕ → ℕ → Bool
row_right na t base = eqb (sharing_bits na t base) 0 && eqb (weight_bits na t base) 0

-- the words of an RCID
unfoldable pub right_at : ℕ → List ℕ → ℕ → Bool
right_at na t rcid = row_right na t (rcid * na)

-- the same of a row in which no AT but 0 is named: the words with blocks have one Mweight, and the first word has blocks or none names an AT
unfoldable pub row_plain : ℕ → List ℕ → ℕ → Bool
row_plain na t base =
    eqb (weight_bits na t base) 0 && (not (eqb (get_or t base 0 % 65536) 0) || eqb (union_below na (λ a. get_or t (base + a) 0) / 2 ^ 28) 0)

-- all ones where more bytes are used than the blocks of the word hold
unfoldable pub over_at : ℕ → List ℕ → List ℕ → ℕ → ℕ
over_at q active used i = cond (leb (get_or used i 0) (blocks_at active i * q)) 0 4294967295

-- f is at most m below n
pub record AtMost (f : ℕ → ℕ) (n m : ℕ) : Type 0 where
  pub each : (k : ℕ) → k < n → f k ≤ m

-- the first n words: all their bits, their form bits and blocks
pub record Scanned (t : List ℕ) (n any form blocks : ℕ) : Type 0 where
  pub any_is : any ≡ union_below n (λ k. get_or t k 0)
  pub form_is : form ≡ union_below n (form_at t)
  pub blocks_are : blocks ≡ sum_below n (blocks_at t)

-- a part of whole rows, at most 64 words, begins at the row r: next is the row after it, and its words are those from from to below to
pub record SpanAt (na nr r next from to : ℕ) : Type 0 where
  pub later : r < next
  pub inside : next ≤ nr
  pub from_is : from ≡ r * na
  pub to_is : to ≡ next * na
  pub order : from ≤ to
  pub end : to ≤ nr * na
  pub long : to - from ≡ (next - r) * na
  pub short : to - from ≤ 64
  pub few : to ≤ 2048
