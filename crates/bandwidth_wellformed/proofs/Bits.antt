-- The bits of a number one by one, and of unions of numbers.
use mathlib.Core.Path.{◌≡◌, sym, ap, ◌∙◌}
use mathlib.Core.Logic.{◌⊎◌, inl, inr, ⊎_elim}
use Prim.Native.Nat.{ℕ, zero, suc, ◌+◌, ◌-◌, ◌/◌, ◌%◌, ◌^◌, ◌≤◌, ◌<◌, max}
use native.Mathlib.Nat.{mod-lt, div-eq_of_lt, div-div-eq-div-mul, div-one, pow-suc, pow-succ', one-mul, le_trans}
use native.Mathlib.Omega.{arith}
use borrow.Author.Count.{below_more}
use lib.Dec.{eqb, eqb→eq, ltb, ltb→lt, nltb→le}
use lib.Bits.{bit_or, or_add_and, and_le_l, and_le_r, or_step, or_shr, or_zero_l}
use lib.Pow.{pow-lt, pow_mono, pow_pos, pow-add, shl-shr, shr-shr}
use Rattle.fields.proofs.Laws.{field_mod}
use Rattle.tables.proofs.Tests.{cases, neqb}
use Rattle.tables.specs.View.{union_below}
use Rattle.bandwidth_wellformed.specs.Bits.{lacking}

-- ---- unions

pub or_ge_l : (a b : ℕ) → a ≤ bit_or a b
or_ge_l a b = omega (arith, or_add_and a b, and_le_r a b)

pub or_ge_r : (a b : ℕ) → b ≤ bit_or a b
or_ge_r a b = omega (arith, or_add_and a b, and_le_l a b)

-- ---- one bit

-- bit k of n is 1
abbrev pub Has : ℕ → ℕ → Type 0
Has k n = n / 2 ^ k % 2 ≡ 1

or_bit : (k a b : ℕ) → bit_or a b / 2 ^ k % 2 ≡ max (a / 2 ^ k % 2) (b / 2 ^ k % 2)
or_bit k a b = ap (λ (n : ℕ). n % 2) (or_shr a b k) ∙ last (a / 2 ^ k) (b / 2 ^ k)
  where
    last : (x y : ℕ) → bit_or x y % 2 ≡ max (x % 2) (y % 2)
    last x y = omega (arith, or_step x y)

pub has_left : (k a b : ℕ) → Has k a → Has k (bit_or a b)
has_left k a b h = omega (arith, or_bit k a b)

pub has_right : (k a b : ℕ) → Has k b → Has k (bit_or a b)
has_right k a b h = omega (arith, or_bit k a b)

pub has_or : (k a b : ℕ) → Has k (bit_or a b) → Has k a ⊎ Has k b
has_or k a b h =
    cases (λ c. Has k a ⊎ Has k b) (eqb (a / 2 ^ k % 2) 1) (λ t. inl (eqb→eq (a / 2 ^ k % 2) 1 t))
    (λ t. let d = neqb (a / 2 ^ k % 2) 1 t in inr (omega (arith, or_bit k a b)))

-- a number below 2^k has no bit k
pub has_not : (k n : ℕ) → n < 2 ^ k → Has k n → ⊥
has_not k n l h = let e : n / 2 ^ k ≡ 0 = div-eq_of_lt l in omega arith

pub has_own : (k : ℕ) → Has k (2 ^ k)
has_own k = ap (λ (x : ℕ). x % 2) (ap (λ (x : ℕ). x / 2 ^ k) (sym (one-mul (2 ^ k))) ∙ shl-shr 1 k)

-- a power of 2 has one bit
pub has_pow : (k j : ℕ) → Has k (2 ^ j) → k ≡ j
has_pow k j h =
    cases (λ c. k ≡ j) (ltb k j) (λ t. absurd (above (j - suc k) (ltb→lt k j t)))
    (λ t. cases (λ c. k ≡ j) (ltb j k) (λ u. absurd (has_not k (2 ^ j) (pow-lt (ltb→lt j k u)) h))
    (λ u. omega (arith, nltb→le k j t, nltb→le j k u)))
  where
    above : (d : ℕ) → k < j → ⊥
    above d l =
        let d = j - suc k in
        let e : suc d + k ≡ j = omega arith in
        let q : 2 ^ j / 2 ^ k ≡ 2 ^ suc d = ap (λ (x : ℕ). 2 ^ x / 2 ^ k) (sym e) ∙ ap (λ (x : ℕ). x / 2 ^ k) (pow-add 2 (suc d) k) ∙ shl-shr (2 ^ suc d) k in
        omega (arith, pow-suc 2 d)

-- ---- all bits of x are bits of y

pub covered : (n x y : ℕ) → x ≤ n → ((k : ℕ) → Has k x → Has k y) → bit_or x y ≡ y
covered zero x y l f = let e : x ≡ 0 = omega arith in rw e (or_zero_l y)
covered (suc n) x y l f =
    let half : bit_or (x / 2) (y / 2) ≡ y / 2 = covered n (x / 2) (y / 2) (omega arith) (λ k h. down y k ∙ f (suc k) (sym (down x k) ∙ h)) in
    let low = last (λ e. sym (first y) ∙ f 0 (first x ∙ e)) in
    omega (arith, or_step x y)
  where
    down : (z k : ℕ) → z / 2 / 2 ^ k % 2 ≡ z / 2 ^ suc k % 2
    down z k = ap (λ (v : ℕ). v % 2) (div-div-eq-div-mul z 2 (2 ^ k) ∙ ap (λ (v : ℕ). z / v) (sym (pow-succ' 2 k)))

    first : (z : ℕ) → z / 2 ^ 0 % 2 ≡ z % 2
    first z = ap (λ (v : ℕ). v % 2) (div-one z)

    last : (x % 2 ≡ 1 → y % 2 ≡ 1) → max (x % 2) (y % 2) ≡ y % 2
    last g =
        cases (λ c. max (x % 2) (y % 2) ≡ y % 2) (eqb (x % 2) 1) (λ t. omega (arith, g (eqb→eq (x % 2) 1 t)))
        (λ t. let d = neqb (x % 2) 1 t in omega arith)

-- ---- the bits of a union

pub union_has : (n : ℕ) (f : ℕ → ℕ) (k i : ℕ) → i < n → Has k (f i) → Has k (union_below n f)
unfolding union_below
union_has zero f k i l = absurd (omega arith)
union_has (suc n) f k i l =
    below_more (λ j. Has k (f j) → Has k (bit_or (union_below n f) (f n))) n (λ j b h. has_left k (union_below n f) (f n) (union_has n f k j b h))
    (has_right k (union_below n f) (f n)) i (omega arith)

-- no number is above the union
pub union_ge : (n : ℕ) (f : ℕ → ℕ) (i : ℕ) → i < n → f i ≤ union_below n f
unfolding union_below
union_ge zero f i l = absurd (omega arith)
union_ge (suc n) f i l =
    below_more (λ j. f j ≤ bit_or (union_below n f) (f n)) n (λ j b. le_trans (union_ge n f j b) (or_ge_l (union_below n f) (f n))) (or_ge_r (union_below n f) (f n)) i (omega arith)

-- a number that has bit k
pub record Having (n : ℕ) (f : ℕ → ℕ) (k : ℕ) : Type 0 where
  pub at : ℕ
  pub below : at < n
  pub has : Has k (f at)

pub has_union : (n : ℕ) (f : ℕ → ℕ) (k : ℕ) → Has k (union_below n f) → Having n f k
unfolding union_below
has_union zero f k h = absurd (has_not k 0 (pow_pos k) h)
has_union (suc n) f k h =
    ⊎_elim (λ (p : Has k (union_below n f)). let r = has_union n f k p in record { at = r.at; below = omega arith; has = r.has })
    (λ (p : Has k (f n)). record { at = n; below = omega arith; has = p })
    (has_or k (union_below n f) (f n) h)

-- ---- nothing is lacking exactly where each of the bits 15:1 is a bit from 16 on too

shifted : (m k : ℕ) → m / 2 ^ 16 / 2 ^ k % 2 ≡ m / 2 ^ (16 + k) % 2
shifted m k = ap (λ (x : ℕ). x % 2) (shr-shr m 16 k)

pub held : (m : ℕ) → lacking m ≡ 0 → (k : ℕ) → 0 < k → k < 16 → Has k m → Has (16 + k) m
unfolding lacking
held m z k p l h =
    let x = m % 65536 in
    let y = bit_or (m / 2 ^ 16) 1 in
    let e : bit_or x y ≡ y = omega (arith, or_ge_r x y) in
    let hx : Has k x = field_mod m k 1 16 (omega arith) ∙ h in
    ⊎_elim (λ (q : Has k (m / 2 ^ 16)). sym (shifted m k) ∙ q) (λ (q : Has k 1). absurd (omega (arith, has_pow k 0 q)))
    (has_or k (m / 2 ^ 16) 1 (ap (λ (v : ℕ). v / 2 ^ k % 2) (sym e) ∙ has_left k x y hx))

pub lacks_none : (m : ℕ) → ((k : ℕ) → 0 < k → k < 16 → Has k m → Has (16 + k) m) → lacking m ≡ 0
unfolding lacking
lacks_none m f = omega (arith, covered (m % 65536) (m % 65536) (bit_or (m / 2 ^ 16) 1) (omega arith) goes)
  where
    goes : (k : ℕ) → Has k (m % 65536) → Has k (bit_or (m / 2 ^ 16) 1)
    goes k h =
        cases (λ c. Has k (bit_or (m / 2 ^ 16) 1)) (ltb k 16)
        (λ t. let l = ltb→lt k 16 t in
        cases (λ c. Has k (bit_or (m / 2 ^ 16) 1)) (eqb k 0)
        (λ u. has_right k (m / 2 ^ 16) 1 (ap (λ (j : ℕ). 1 / 2 ^ j % 2) (eqb→eq k 0 u)))
        (λ u. let d = neqb k 0 u in has_left k (m / 2 ^ 16) 1 (shifted m k ∙ f k (omega arith) l (sym (field_mod m k 1 16 (omega arith)) ∙ h))))
        (λ t. absurd (has_not k (m % 65536) (le_trans {m = 65536} (mod-lt m (omega arith)) (pow_mono {i = 16} {j = k} (nltb→le k 16 t))) h))
