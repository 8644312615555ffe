-- Numbers of n words of 64 bits, the lowest first, and tables of such numbers.
use Rattle.std.specs.Prelude.{Bool, if◌then◌else◌, ◌==◌, List, [], ◌∷◌, ◌++◌, ℕ, zero, suc, ◌+◌, ◌*◌, ◌/◌, ◌%◌, ◌^◌, length}
use Rattle.tables.specs.Notation.{◌‼◌}
use Rattle.tables.specs.Below.{sum_below}
use Rattle.tables.specs.Parts.{with_part}

-- the number of n words whose word i is f i
unfoldable pub value : ℕ → (ℕ → ℕ) → ℕ
value zero f = 0
value (suc n) f = f n * 2 ^ (64 * n) + value n f

-- how many words hold c bits
unfoldable pub words_for : ℕ → ℕ
words_for c = (c + 63) / 64

-- the number that words hold
unfoldable pub number_in : List ℕ → ℕ
number_in words = value (length words) (λ i. words ‼ i)

-- word i of a number
abbrev pub word_of : ℕ → ℕ → ℕ
word_of x i = x / 2 ^ (64 * i) % 2 ^ 64

-- the number with w as its word i
unfoldable pub put_word : ℕ → ℕ → ℕ → ℕ
put_word x i w = x / 2 ^ (64 + 64 * i) * 2 ^ (64 + 64 * i) + (w * 2 ^ (64 * i) + x % 2 ^ (64 * i))

-- bit b is set
unfoldable pub has_bit : ℕ → ℕ → Bool
has_bit x b = x / 2 ^ b % 2 == 1

-- how many of the bits below k are set
unfoldable pub bits_below : ℕ → ℕ → ℕ
bits_below k x = sum_below k (λ b. if has_bit x b then 1 else 0)

-- the n low words of a number
unfoldable pub words_of : ℕ → ℕ → List ℕ
words_of zero x = []
words_of (suc n) x = x % 2 ^ 64 ∷ words_of n (x / 2 ^ 64)

-- ---- tables of numbers of n words each

-- the number whose words begin at a
unfoldable pub number_at : ℕ → List ℕ → ℕ → ℕ
number_at n table a = value n (λ i. table ‼ (a + i))

-- the first k numbers of a table
unfoldable pub numbers_of : ℕ → ℕ → List ℕ → List ℕ
numbers_of n zero table = []
numbers_of n (suc k) table = numbers_of n k table ++ number_at n table (k * n) ∷ []

-- the table with x as its number p
unfoldable pub with_number : ℕ → List ℕ → ℕ → ℕ → List ℕ
with_number n table p x = with_part (p * n) n table (words_of n x)

-- the words of all numbers
unfoldable pub words_of_all : ℕ → List ℕ → List ℕ
words_of_all n [] = []
words_of_all n (x ∷ xs) = words_of n x ++ words_of_all n xs
