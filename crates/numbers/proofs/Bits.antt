-- Laws of the bits of a number by its words: one bit, how many are set, and bits that are cut.
use mathlib.Core.Path.{◌≡◌, refl, sym, ap, ap₂, subst, ◌∙◌}
use mathlib.Core.Bool.{cond}
use Prim.Native.Nat.{ℕ, zero, suc, ◌+◌, ◌-◌, ◌*◌, ◌/◌, ◌%◌, ◌^◌, ◌≤◌, ◌<◌, min}
use native.Mathlib.Nat.{add_comm, lt_of_lt_of_le, mod-lt, mod-eq_of_lt, div-eq_of_lt, zero-mul}
use native.Mathlib.Numerals.{one-add}
use native.Mathlib.Omega.{arith}
use lib.Arith.{lt-one}
use lib.Count.{ones, ones_cat}
use lib.Dec.{eqb, leb, leb→le, nleb→lt}
use lib.Pow.{pow_pos, pow_mono, high, low, split, mod-pow-add, shr-shr, shr_lt}
use Rattle.fields.specs.Layout.{field}
use Rattle.fields.proofs.Laws.{field_mod, put_lt}
use Rattle.tables.specs.Below.{sum_below}
use Rattle.tables.proofs.Laws.{sum_same}
use Rattle.tables.proofs.Tests.{cases}
use Rattle.numbers.specs.Numbers.{value, put_word, has_bit, bits_below}
use Rattle.numbers.proofs.Words.{value_lt, value_word}

-- ---- one bit

-- a field that lies within word i
value_field : (f : ℕ → ℕ) → ((i : ℕ) → f i < 2 ^ 64) → (n i p k : ℕ) → i < n → k + p ≤ 64 → value n f / 2 ^ (p + 64 * i) % 2 ^ k ≡ field (f i) p k
value_field f h n i p k l e =
    let x = value n f in
    ap (λ (j : ℕ). x / 2 ^ j % 2 ^ k) (add_comm p (64 * i))
    ∙ ap (λ (y : ℕ). y % 2 ^ k) (sym (shr-shr x (64 * i) p))
    ∙ sym (field_mod (x / 2 ^ (64 * i)) p k 64 e)
    ∙ ap (λ (y : ℕ). field y p k) (value_word f h n i l)

pub value_bit : (n : ℕ) (f : ℕ → ℕ) → ((i : ℕ) → f i < 2 ^ 64) → (b : ℕ) → b < 64 * n → has_bit (value n f) b ≡ has_bit (f (b / 64)) (b % 64)
unfolding has_bit
value_bit n f h b l =
    let e : b ≡ b % 64 + 64 * (b / 64) = omega arith in
    ap (λ (x : ℕ). eqb x 1)
    (ap (λ (d : ℕ). value n f / 2 ^ d % 2) e ∙ value_field f h n (b / 64) (b % 64) 1 (omega arith) (omega arith))

-- ---- how many bits are set

ones_zero : ones 0 ≡ 0
unfolding ones
ones_zero = refl

ones_bit : (r : ℕ) → r < 2 → ones r ≡ cond (eqb (r % 2) 1) 1 0
unfolding ones
ones_bit zero h = refl
ones_bit (suc zero) h = refl
ones_bit (suc (suc r)) h = absurd (omega arith)

bits_mod : (k x : ℕ) → bits_below k (x % 2 ^ k) ≡ bits_below k x
unfolding bits_below has_bit
bits_mod k x = sum_same k _ _ (λ b l. ap (λ (y : ℕ). cond (eqb y 1) 1 0) (field_mod x b 1 k (omega arith)))

-- count_ones counts the bits that are set
ones_bits : (k x : ℕ) → x < 2 ^ k → ones x ≡ bits_below k x
unfolding bits_below has_bit sum_below
ones_bits zero x h = ap ones (lt-one h) ∙ ones_zero
ones_bits (suc k) x h =
    let top : x / 2 ^ k < 2 = shr_lt 1 k (subst (λ (e : ℕ). x < 2 ^ e) (sym (one-add k)) h) in
    ap ones (sym (split x k)) ∙ ones_cat k (x / 2 ^ k) (x % 2 ^ k) (mod-lt x (pow_pos k))
    ∙ ap₂ (λ (a b : ℕ). a + b) (ones_bit (x / 2 ^ k) top) (ones_bits k (x % 2 ^ k) (mod-lt x (pow_pos k)) ∙ bits_mod k x)
    ∙ add_comm (cond (eqb (x / 2 ^ k % 2) 1) 1 0) (bits_below k x)

value_ones : (n : ℕ) (f : ℕ → ℕ) → ((i : ℕ) → f i < 2 ^ 64) → ones (value n f) ≡ sum_below n (λ i. ones (f i))
unfolding value sum_below
value_ones zero f h = ones_zero
value_ones (suc n) f h = ones_cat (64 * n) (f n) (value n f) (value_lt n f h) ∙ omega (arith, value_ones n f h)

-- the count over the words of a number below 2 ^ c is that of its bits below c
pub value_bits : (n c : ℕ) (f : ℕ → ℕ) → ((i : ℕ) → f i < 2 ^ 64) → value n f < 2 ^ c → sum_below n (λ i. ones (f i)) ≡ bits_below c (value n f)
value_bits n c f h l = sym (value_ones n f h) ∙ ones_bits c (value n f) l

-- ---- bits from c on that are cut

-- how many bits word i keeps
abbrev pub width_at : ℕ → ℕ → ℕ
width_at c i = min 64 (c - 64 * i)

nothing_above : (q y : ℕ) → 0 * q + y ≡ y
nothing_above q y = omega (arith, zero-mul q)

cut_low : (u p r lo : ℕ) → lo < 2 ^ p → (u * 2 ^ p + lo) % 2 ^ (r + p) ≡ u % 2 ^ r * 2 ^ p + lo
cut_low u p r lo h = mod-pow-add (u * 2 ^ p + lo) r p ∙ rw (high u p h, low u p h)

module _ (c x i u : ℕ) (hx : x < 2 ^ c) (hi : 64 * i < c) (hu : u < 2 ^ 64) where
  -- a word below the highest keeps all
  put_whole : 64 + 64 * i ≤ c → put_word x i u % 2 ^ c ≡ put_word x i (u % 2 ^ 64)
  unfolding put_word
  put_whole l =
      let k = 64 + 64 * i in
      let lo : u * 2 ^ (64 * i) + x % 2 ^ (64 * i) < 2 ^ k = put_lt u (64 * i) 64 (x % 2 ^ (64 * i)) (mod-lt x (pow_pos (64 * i))) hu in
      let e : c - k + k ≡ c = omega arith in
      let above : x / 2 ^ k < 2 ^ (c - k) = shr_lt (c - k) k (subst (λ (d : ℕ). x < 2 ^ d) (sym e) hx) in
      rw (mod-eq_of_lt hu) (mod-eq_of_lt (subst (λ (d : ℕ). x / 2 ^ k * 2 ^ k + (u * 2 ^ (64 * i) + x % 2 ^ (64 * i)) < 2 ^ d) e (put_lt (x / 2 ^ k) k (c - k) _ lo above)))

  -- the highest loses its bits from c on
  put_highest : c ≤ 64 + 64 * i → put_word x i u % 2 ^ c ≡ put_word x i (u % 2 ^ (c - 64 * i))
  unfolding put_word
  put_highest l =
      let p = 64 * i in
      let r = c - p in
      let q = 2 ^ (64 + p) in
      let lo = x % 2 ^ p in
      let e : r + p ≡ c = omega arith in
      let none : x / q ≡ 0 = div-eq_of_lt (lt_of_lt_of_le hx (pow_mono l)) in
      rw none
      (ap (λ (y : ℕ). y % 2 ^ c) (nothing_above q (u * 2 ^ p + lo))
      ∙ subst (λ (d : ℕ). (u * 2 ^ p + lo) % 2 ^ d ≡ u % 2 ^ r * 2 ^ p + lo) e (cut_low u p r lo (mod-lt x (pow_pos p)))
      ∙ sym (nothing_above q (u % 2 ^ r * 2 ^ p + lo)))

  -- a word put into a number below 2 ^ c
  pub put_cut : put_word x i u % 2 ^ c ≡ put_word x i (u % 2 ^ width_at c i)
  put_cut =
      cases (λ b. put_word x i u % 2 ^ c ≡ put_word x i (u % 2 ^ width_at c i)) (leb (64 + 64 * i) c)
      (λ y. let e : width_at c i ≡ 64 = omega (arith, leb→le (64 + 64 * i) c y) in rw e (put_whole (leb→le (64 + 64 * i) c y)))
      (λ n. let h = nleb→lt (64 + 64 * i) c n in let e : width_at c i ≡ c - 64 * i = omega arith in rw e (put_highest (omega arith)))
