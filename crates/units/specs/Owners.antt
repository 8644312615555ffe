-- The lent table of owners: a word for each unit of capacity, 0 when the unit is free (rules U2, U5 and U6).
use Rattle.std.specs.Prelude.{Bool, ◌&&◌, ◌||◌, List, [], ◌∷◌, ℕ, if◌then◌else◌, ◌==◌}
use Rattle.tables.specs.Notation.{◌<?◌}
use Rattle.std.specs.Prelude.{map}
use Rattle.fields.specs.Layout.{get, pack}
use Rattle.fields.specs.Registers as reg
use Rattle.tables.specs.Below.{count_of}

-- the word that a fill stores
unfoldable pub owner_word : ℕ → ℕ → ℕ → ℕ
owner_word rcid mcid at = pack reg.owner (1 ∷ at ∷ mcid ∷ rcid ∷ [])

unfoldable pub is_owned : ℕ → Bool
is_owned owner = get reg.owned owner == 1

-- owned under this MCID, and under this RCID
unfoldable pub of_mcid : ℕ → ℕ → Bool
of_mcid mcid owner = is_owned owner && get reg.owner_mcid owner == mcid

unfoldable pub of_rcid : ℕ → ℕ → Bool
of_rcid rcid owner = is_owned owner && get reg.owner_rcid owner == rcid

-- the units that an MCID owns
unfoldable pub units_of : ℕ → List ℕ → ℕ
units_of mcid owners = count_of (of_mcid mcid) owners

-- well formed (rule W9): free, or a word that a fill stores
unfoldable pub owner_ok : ℕ → ℕ → ℕ → ℕ → Bool
owner_ok nr nm na owner =
    let rcid = get reg.owner_rcid owner in
    let mcid = get reg.owner_mcid owner in
    let at = get reg.owner_at owner in
    owner == 0 || (owner == owner_word rcid mcid at && rcid <? nr && mcid <? nm && at <? na)

-- a flush frees every unit of the RCID
unfoldable pub flushed_owners : ℕ → List ℕ → List ℕ
flushed_owners rcid owners = map (λ owner. if of_rcid rcid owner then 0 else owner) owners
