-- Unions of words, a test of every entry, and a contract that carries its bound.
use Rattle.std.specs.Prelude.{ℕ, zero, suc, ◌≤◌, ◌≡◌}
use Rattle.std.specs.Int.Bits.{bit_or}

-- f 0 | .. | f (n - 1)
unfoldable pub union_below : ℕ → (ℕ → ℕ) → ℕ
union_below zero f = 0
union_below (suc n) f = bit_or (union_below n f) (f n)

-- r is x, and at most m
pub record Small (x m r : ℕ) : Type 0 where
  pub is : r ≡ x
  pub small : r ≤ m
