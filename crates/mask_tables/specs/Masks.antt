-- Check 3 over a table of masks.
use Rattle.std.specs.Prelude.{◌≡◌, Bool, List, ℕ, ◌+◌, ◌-◌, ◌*◌, ◌%◌, ◌^◌, ◌<◌, eqb, get_or}
use Rattle.tables.specs.Below.{all_below}
use Rattle.tables.specs.View.{union_below}
use Rattle.numbers.specs.Numbers.{words_for, numbers_of}

-- where bits is the union of the highest words of a table's masks, r says whether no mask has a bit c or above
abbrev pub TopsOf : ℕ → ℕ → Bool → Type 0
TopsOf c bits r =
    (k : ℕ) (t : List ℕ) → ((i : ℕ) → get_or t i 0 < 2 ^ 64) → bits ≡ union_below k (λ p. get_or t (p * words_for c + (words_for c - 1)) 0)
    → r ≡ all_below k (λ p. eqb (get_or (numbers_of (words_for c) k t) p 0) (get_or (numbers_of (words_for c) k t) p 0 % 2 ^ c))
