-- Notation of the definitions. Each is an abbreviation, so that nothing hides behind it.
use Rattle.std.specs.Prelude.{Bool, List, ℕ, leb, ltb, get_or}

-- tests of numbers
infix 50 ◌≤?◌
abbrev pub ◌≤?◌ : ℕ → ℕ → Bool
◌≤?◌ a b = leb a b

infix 50 ◌<?◌
abbrev pub ◌<?◌ : ℕ → ℕ → Bool
◌<?◌ a b = ltb a b

-- the word of a table at a place, 0 beyond its end
infixl 80 ◌‼◌
abbrev pub ◌‼◌ : List ℕ → ℕ → ℕ
◌‼◌ table i = get_or table i 0
