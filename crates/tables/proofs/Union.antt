-- Unions of words: 0 exactly where each word is.
use mathlib.Core.Path.{◌≡◌, refl, sym, ap, subst, ◌∙◌}
use mathlib.Core.Bool.{Bool, true, false, cond}
use Prim.Native.Nat.{ℕ, zero, suc, ◌+◌, ◌/◌, ◌%◌, ◌^◌, ◌<◌, max}
use native.Mathlib.Nat.{add-zero, add-suc, mod-eq_of_lt, div-eq_of_lt, div-lt_iff_lt-mul, one-mul, lt_of_lt_of_le, le_of_eq}
use native.Mathlib.Numerals.{add-one}
use native.Mathlib.Omega.{arith}
use borrow.Author.Count.{below_more}
use lib.Arith.{bin_ind}
use lib.Bits.{bit_or, or_add_and, and_le_l, and_le_r, or_mod, or_shr, or_step, or_zero_l, or_zero_r}
use lib.Dec.{T, eqb, eqb-suc-zero, eqb→eq, ltb, ltb→lt, lt→ltb}
use lib.Pow.{pow_pos}
use Rattle.tables.specs.Below.{all_below}
use Rattle.tables.specs.View.{union_below}
use Rattle.tables.proofs.Tests.{eqb_in, same_test}
use Rattle.tables.proofs.Laws.{all_at, all_in}

or_zero : (a b : ℕ) → bit_or a b ≡ 0 → (a ≡ 0) × (b ≡ 0)
or_zero a b h =
    (omega (arith, or_add_and a b, and_le_l a b, and_le_r a b), omega (arith, or_add_and a b, and_le_l a b, and_le_r a b))

or_none : (a b : ℕ) → a ≡ 0 → b ≡ 0 → bit_or a b ≡ 0
or_none a b h k = omega (arith, or_add_and a b)

pub union_none : (f : ℕ → ℕ) → union_below 0 f ≡ 0
unfolding union_below
union_none f = refl

pub union_next : (n : ℕ) (f : ℕ → ℕ) → union_below (n + 1) f ≡ bit_or (union_below n f) (f n)
unfolding union_below
union_next n f = rw add-one

-- a union is 0 exactly where each word is
pub union_zero : (n : ℕ) (f : ℕ → ℕ) → union_below n f ≡ 0 → (i : ℕ) → i < n → f i ≡ 0
unfolding union_below
union_zero zero f h i l = absurd (omega arith)
union_zero (suc n) f h i l =
    let z = or_zero (union_below n f) (f n) h in
    below_more (λ k. f k ≡ 0) n (union_zero n f z.0) z.1 i (omega arith)

pub zero_union : (n : ℕ) (f : ℕ → ℕ) → ((i : ℕ) → i < n → f i ≡ 0) → union_below n f ≡ 0
unfolding union_below
zero_union zero f h = refl
zero_union (suc n) f h = or_none (union_below n f) (f n) (zero_union n f (λ i l. h i (omega arith))) (h n (omega arith))

-- a test of each index, by the union
pub none_in_union : (n : ℕ) (f : ℕ → ℕ) (p : ℕ → Bool) → ((i : ℕ) → i < n → eqb (f i) 0 ≡ p i) → eqb (union_below n f) 0 ≡ all_below n p
none_in_union n f p h =
    same_test (eqb (union_below n f) 0) (all_below n p)
    (λ t. all_in n p (λ i l. subst T (h i l) (eqb_in (f i) 0 (union_zero n f (eqb→eq (union_below n f) 0 t) i l))))
    (λ t. eqb_in (union_below n f) 0 (zero_union n f (λ i l. eqb→eq (f i) 0 (subst T (sym (h i l)) (all_at n p t i l)))))

-- 0 where p holds of the index, and else a number that is not
pub none_bad : (n k : ℕ) (p : ℕ → Bool) → eqb (union_below n (λ i. cond (p i) 0 (suc k))) 0 ≡ all_below n p
none_bad n k p = none_in_union n (λ i. cond (p i) 0 (suc k)) p (λ i l. one (p i))
  where
    one : (b : Bool) → eqb (cond b 0 (suc k)) 0 ≡ b
    one true = refl
    one false = eqb-suc-zero k

-- ---- a union of two runs of indexes

or_half : (a b : ℕ) → bit_or a b / 2 ≡ bit_or (a / 2) (b / 2)
or_half a b = omega (arith, or_step a b)

or_odd : (a b : ℕ) → bit_or a b % 2 ≡ max (a % 2) (b % 2)
or_odd a b = omega (arith, or_step a b)

or_assoc : (a b c : ℕ) → bit_or (bit_or a b) c ≡ bit_or a (bit_or b c)
or_assoc =
    bin_ind (λ (a : ℕ). (b c : ℕ) → bit_or (bit_or a b) c ≡ bit_or a (bit_or b c)) (λ b c. rw (or_zero_l, or_zero_l) refl)
    (λ a h b c. rw (or_step (bit_or a b) c, or_step a (bit_or b c), or_half a b, or_half b c, or_odd a b, or_odd b c, h (b / 2) (c / 2)) (omega arith))

pub union_same : (n : ℕ) (f g : ℕ → ℕ) → ((k : ℕ) → k < n → f k ≡ g k) → union_below n f ≡ union_below n g
unfolding union_below
union_same zero f g h = refl
union_same (suc n) f g h = rw (union_same n f g (λ k b. h k (omega arith)), h n (omega arith))

pub union_add : (n m : ℕ) (f : ℕ → ℕ) → union_below (n + m) f ≡ bit_or (union_below n f) (union_below m (λ i. f (n + i)))
unfolding union_below
union_add n zero f = ap (λ (x : ℕ). union_below x f) (add-zero n) ∙ sym (or_zero_r (union_below n f))
union_add n (suc m) f =
    ap (λ (x : ℕ). union_below x f) (add-suc n m) ∙ ap (λ (x : ℕ). bit_or x (f (n + m))) (union_add n m f)
    ∙ or_assoc (union_below n f) (union_below m (λ i. f (n + i))) (f (n + m))

-- ---- the low and the high bits of a union

pub union_mod : (k n : ℕ) (f : ℕ → ℕ) → union_below n f % 2 ^ k ≡ union_below n (λ i. f i % 2 ^ k)
unfolding union_below
union_mod k zero f = mod-eq_of_lt (pow_pos k)
union_mod k (suc n) f = or_mod (union_below n f) (f n) k ∙ ap (λ (x : ℕ). bit_or x (f n % 2 ^ k)) (union_mod k n f)

pub union_shr : (w n : ℕ) (f : ℕ → ℕ) → union_below n f / 2 ^ w ≡ union_below n (λ i. f i / 2 ^ w)
unfolding union_below
union_shr w zero f = div-eq_of_lt (pow_pos w)
union_shr w (suc n) f = or_shr (union_below n f) (f n) w ∙ ap (λ (x : ℕ). bit_or x (f n / 2 ^ w)) (union_shr w n f)

-- a number below 2^w has no bit from w on, and no other has none
pub low_test : (w x : ℕ) → eqb (x / 2 ^ w) 0 ≡ ltb x (2 ^ w)
low_test w x =
    same_test (eqb (x / 2 ^ w) 0) (ltb x (2 ^ w)) (λ t. lt→ltb x (2 ^ w) (below (eqb→eq (x / 2 ^ w) 0 t)))
    (λ t. eqb_in (x / 2 ^ w) 0 (div-eq_of_lt (ltb→lt x (2 ^ w) t)))
  where
    below : x / 2 ^ w ≡ 0 → x < 2 ^ w
    below e = lt_of_lt_of_le ((div-lt_iff_lt-mul {k = 2 ^ w} {x = x} {y = 1} (pow_pos w)).0 (omega arith)) (le_of_eq (one-mul (2 ^ w)))

-- all words are below 2^w where their union is
pub union_low : (w n : ℕ) (f : ℕ → ℕ) → eqb (union_below n f / 2 ^ w) 0 ≡ all_below n (λ i. ltb (f i) (2 ^ w))
union_low w n f =
    ap (λ (x : ℕ). eqb x 0) (union_shr w n f) ∙ none_in_union n (λ i. f i / 2 ^ w) (λ i. ltb (f i) (2 ^ w)) (λ i l. low_test w (f i))
