-- The operand rules of CONFIG_LIMIT clause by clause: operands that are bad by one clause alone, and operands that are good.
use Rattle.std.specs.Prelude.{◌≡◌, Bool, true, false, not, List, [], ◌∷◌, ℕ, ◌+◌, ◌*◌, set, ◌==◌}
use Rattle.tables.specs.Notation.{◌≤?◌, ◌<?◌}
use Rattle.std.specs.Prelude.{map}
use Rattle.tables.specs.Below.{any_below}
use Rattle.access.specs.Pairs.{pair, word_at}
use Rattle.bandwidth_model.specs.Rules.{Setup, rbwb_of, shared_at_of, is_holder, total, shares, bad_operand}
use Rattle.bandwidth_model.specs.Model.{table_ok}

-- MRBWB 80, NR 2 and NA 4
abbrev pub board : Setup
board = record { nbwblks = 100; mrbwb = 80; nr = 2; na = 4; nm = 1; q = 64; w = 24 }

-- the word with useShared 1, this sharedAT and 0 elsewhere
abbrev pub sharing : ℕ → ℕ
sharing at = 0x80000000 + at * 0x10000000

-- RCID 0: AT 0 holds 30 blocks, AT 1 shares it, AT 2 holds 10, AT 3 is unset; RCID 1: AT 0 holds 15, AT 1 holds 5, AT 2 and 3 are unset
abbrev pub table : List ℕ
table = 30 ∷ sharing 0 ∷ 10 ∷ 0 ∷ 15 ∷ 5 ∷ 0 ∷ 0 ∷ []

-- RCID and AT, the operand, whether each clause of its rule applies, and whether the operand is bad
pub data Case : Type 0 where
  operand : ℕ → ℕ → ℕ → List Bool → Bool → Case

-- ---- useShared 0

-- Rbwb is 0; Rbwb plus the Rbwb of every other holder exceeds MRBWB
unfoldable pub as_holder : List ℕ → Case → Case
as_holder t (operand rcid at word clauses bad) =
    operand rcid at word ((rbwb_of word == 0) ∷ (board.mrbwb <? rbwb_of word + total (set t (pair board.na rcid at) 0)) ∷ [])
    (bad_operand board t rcid at word)

abbrev pub holders : List Case
holders =
    -- Mweight 5 and no blocks
    operand 0 3 0x00500000 (true ∷ false ∷ []) true
    -- 21 and the 60 of the others
    ∷ operand 0 3 21 (false ∷ true ∷ []) true
    -- exactly MRBWB
    ∷ operand 0 3 20 (false ∷ false ∷ []) false
    -- the 30 that are replaced do not count; AT 1 goes on sharing this pair
    ∷ operand 0 0 51 (false ∷ true ∷ []) true
    ∷ operand 0 0 50 (false ∷ false ∷ []) false
    -- a sharer becomes a holder
    ∷ operand 0 1 20 (false ∷ false ∷ []) false
    -- sharedAT is this AT, which no clause asks for
    ∷ operand 0 3 0x30000014 (false ∷ false ∷ []) false
    ∷ []

-- a sharer's word with 25 blocks, which no operation stores: it is no holder, and they do not count
abbrev pub blocks_of_sharer : List ℕ
blocks_of_sharer = 60 ∷ (sharing 0 + 25) ∷ 0 ∷ 0 ∷ 0 ∷ 0 ∷ 0 ∷ 0 ∷ []

-- ---- useShared 1

-- sharedAT is this AT; is at or above NA; is no holder under the same RCID; another AT of this RCID shares this one
unfoldable pub as_sharer : List ℕ → Case → Case
as_sharer t (operand rcid at word clauses bad) =
    operand rcid at word
    ((shared_at_of word == at) ∷ (board.na ≤? shared_at_of word) ∷ not (is_holder (word_at board.na t rcid (shared_at_of word)))
    ∷ any_below board.na (shares board t rcid at) ∷ [])
    (bad_operand board t rcid at word)

abbrev pub sharers : List Case
sharers =
    -- a holder names itself
    operand 0 2 (sharing 2) (true ∷ false ∷ false ∷ false ∷ []) true
    -- NA and above, where the words of RCID 1's holders would be read
    ∷ operand 0 3 (sharing 4) (false ∷ true ∷ false ∷ false ∷ []) true
    ∷ operand 0 3 (sharing 5) (false ∷ true ∷ false ∷ false ∷ []) true
    -- an unset pair
    ∷ operand 0 1 (sharing 3) (false ∷ false ∷ true ∷ false ∷ []) true
    -- a sharer
    ∷ operand 0 3 (sharing 1) (false ∷ false ∷ true ∷ false ∷ []) true
    -- a holder under RCID 0, and unset under this one
    ∷ operand 1 3 (sharing 2) (false ∷ false ∷ true ∷ false ∷ []) true
    -- AT 1 shares this pair
    ∷ operand 0 0 (sharing 2) (false ∷ false ∷ false ∷ true ∷ []) true
    -- an unset pair, a holder that nobody shares and a sharer of another holder become sharers
    ∷ operand 0 3 (sharing 0) (false ∷ false ∷ false ∷ false ∷ []) false
    ∷ operand 0 2 (sharing 0) (false ∷ false ∷ false ∷ false ∷ []) false
    ∷ operand 0 1 (sharing 2) (false ∷ false ∷ false ∷ false ∷ []) false
    -- an AT 0 is shared, of RCID 0
    ∷ operand 1 0 (sharing 1) (false ∷ false ∷ false ∷ false ∷ []) false
    -- more blocks than MRBWB, which no clause asks for
    ∷ operand 0 3 (sharing 0 + 0xffff) (false ∷ false ∷ false ∷ false ∷ []) false
    ∷ []

-- the table is well formed, and each case's clauses and result are as it says
pub record Operands : Type 0 where
  pub formed : table_ok board table ≡ true
  pub held : map (as_holder table) holders ≡ holders
  pub uncounted : bad_operand board blocks_of_sharer 0 3 20 ≡ false
  pub shared : map (as_sharer table) sharers ≡ sharers
