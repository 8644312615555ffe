-- Laws of a number and its words, over any number of words.
use mathlib.Core.Path.{◌≡◌, refl, sym, ap, ap₂, subst, ◌∙◌}
use mathlib.Core.List.{List}
use Prim.Native.Nat.{ℕ, zero, suc, ◌+◌, ◌-◌, ◌*◌, ◌/◌, ◌%◌, ◌^◌, ◌≤◌, ◌<◌}
use native.Mathlib.Nat.{add-zero, add-suc, add_comm, add-mul, mul_assoc, mod-one, mod-eq_of_lt, zero-div, zero-mul, add-sub_of_le, div-one}
use native.Mathlib.Numerals.{add-one}
use native.Mathlib.Omega.{arith}
use lib.Dec.{lit<}
use lib.ListN.{length, get_or, set, take, length-take}
use lib.Pow.{pow-add, high, low, mod-pow-add, shr-shr}
use lib.Seq.{ext_get_or, get_or-take, get_or-set_same, get_or-set_other}
use Rattle.fields.proofs.Laws.{put_lt}
use Rattle.numbers.specs.Numbers.{value, word_of, put_word, words_of}

-- ---- a number of n words

pub value_same : (n : ℕ) (f g : ℕ → ℕ) → ((i : ℕ) → i < n → f i ≡ g i) → value n f ≡ value n g
unfolding value
value_same zero f g h = refl
value_same (suc n) f g h = rw (h n (omega arith), value_same n f g (λ i l. h i (omega arith)))

pub value_lt : (n : ℕ) (f : ℕ → ℕ) → ((i : ℕ) → f i < 2 ^ 64) → value n f < 2 ^ (64 * n)
unfolding value
value_lt zero f h = lit< tt
value_lt (suc n) f h =
    subst (λ (e : ℕ). f n * 2 ^ (64 * n) + value n f < 2 ^ e) (omega arith) (put_lt (f n) (64 * n) 64 (value n f) (value_lt n f h) (h n))

-- the highest word above the others
pub value_top : (f : ℕ → ℕ) (m : ℕ) → value (m + 1) f ≡ f m * 2 ^ (64 * m) + value m f
unfolding value
value_top f m = rw add-one

-- the words from i on above those below i
pub value_split : (i m : ℕ) (f : ℕ → ℕ) → value (i + m) f ≡ value m (λ j. f (i + j)) * 2 ^ (64 * i) + value i f
unfolding value
value_split i zero f = ap (λ (k : ℕ). value k f) (add-zero i) ∙ omega arith
value_split i (suc m) f =
    let p = 2 ^ (64 * i) in
    let q : 2 ^ (64 * (i + m)) ≡ 2 ^ (64 * m) * p = ap (λ (e : ℕ). 2 ^ e) (omega arith) ∙ pow-add 2 (64 * m) (64 * i) in
    ap (λ (k : ℕ). value k f) (add-suc i m)
    ∙ ap₂ (λ (x y : ℕ). f (i + m) * x + y) q (value_split i m f)
    ∙ omega (arith, add-mul (f (i + m) * 2 ^ (64 * m)) (value m (λ j. f (i + j))) p, mul_assoc (f (i + m)) (2 ^ (64 * m)) p)

-- the lowest word below the others
value_first : (m : ℕ) (f : ℕ → ℕ) → value (1 + m) f ≡ value m (λ j. f (1 + j)) * 2 ^ 64 + f 0
unfolding value
value_first m f = value_split 1 m f ∙ omega arith

-- words that are 0
pub none_value : (n : ℕ) (f : ℕ → ℕ) → ((i : ℕ) → i < n → f i ≡ 0) → value n f ≡ 0
unfolding value
none_value zero f h = refl
none_value (suc n) f h = rw (h n (omega arith), none_value n f (λ i l. h i (omega arith))) (omega (arith, zero-mul (2 ^ (64 * n))))

-- a number with words above it that are 0
pub value_pad : (n k : ℕ) (f g : ℕ → ℕ) → n ≤ k → ((i : ℕ) → i < n → f i ≡ g i) → ((i : ℕ) → n ≤ i → i < k → f i ≡ 0) → value k f ≡ value n g
value_pad n k f g l h z =
    ap (λ (x : ℕ). value x f) (sym (add-sub_of_le l)) ∙ value_split n (k - n) f
    ∙ rw (none_value (k - n) (λ j. f (n + j)) (λ j b. z (n + j) (omega arith) (omega arith)), value_same n f g h) (omega (arith, zero-mul (2 ^ (64 * n))))

-- the words of a number make it again
pub value_words : (n x : ℕ) → value n (λ i. word_of x i) ≡ x % 2 ^ (64 * n)
unfolding value
value_words zero x = sym (mod-one x)
value_words (suc n) x =
    ap (λ (y : ℕ). word_of x n * 2 ^ (64 * n) + y) (value_words n x) ∙ sym (mod-pow-add x 64 (64 * n)) ∙ ap (λ (e : ℕ). x % 2 ^ e) (omega arith)

-- ---- one word of a number

module _ (f : ℕ → ℕ) (h : (i : ℕ) → f i < 2 ^ 64) where
  pub value_high : (i m : ℕ) → value (i + m) f / 2 ^ (64 * i) ≡ value m (λ j. f (i + j))
  value_high i m = ap (λ (x : ℕ). x / 2 ^ (64 * i)) (value_split i m f) ∙ high (value m (λ j. f (i + j))) (64 * i) (value_lt i f h)

  pub value_low : (i m : ℕ) → value (i + m) f % 2 ^ (64 * i) ≡ value i f
  value_low i m = ap (λ (x : ℕ). x % 2 ^ (64 * i)) (value_split i m f) ∙ low (value m (λ j. f (i + j))) (64 * i) (value_lt i f h)

  -- word i, below the others from i on
  value_lowest : (i m : ℕ) → word_of (value (i + (1 + m)) f) i ≡ f i
  value_lowest i m =
      let g : ℕ → ℕ = λ j. f (i + j) in
      ap (λ (x : ℕ). x % 2 ^ 64) (value_high i (1 + m) ∙ value_first m g) ∙ low (value m (λ j. g (1 + j))) 64 (h (i + 0)) ∙ ap f (add-zero i)

  pub value_word : (n i : ℕ) → i < n → word_of (value n f) i ≡ f i
  value_word n i l = subst (λ (k : ℕ). word_of (value k f) i ≡ f i) (omega arith) (value_lowest i (n - i - 1))

  -- the words above word i
  value_above : (i m : ℕ) → value (i + (1 + m)) f / 2 ^ (64 + 64 * i) ≡ value m (λ j. f (i + (1 + j)))
  value_above i m =
      let g : ℕ → ℕ = λ j. f (i + j) in
      ap (λ (e : ℕ). value (i + (1 + m)) f / 2 ^ e) (add_comm 64 (64 * i))
      ∙ sym (shr-shr (value (i + (1 + m)) f) (64 * i) 64)
      ∙ ap (λ (x : ℕ). x / 2 ^ 64) (value_high i (1 + m) ∙ value_first m g)
      ∙ high (value m (λ j. g (1 + j))) 64 (h (i + 0))

  put_parts : (i m w : ℕ) (g : ℕ → ℕ) → g i ≡ w → ((j : ℕ) → j < i + (1 + m) → (j ≡ i → ⊥) → g j ≡ f j)
      → put_word (value (i + (1 + m)) f) i w ≡ value (i + (1 + m)) g
  unfolding put_word
  put_parts i m w g e k =
      let p = 2 ^ (64 * i) in
      let above = value m (λ j. g (i + (1 + j))) in
      let a : value m (λ j. f (i + (1 + j))) ≡ above = value_same m _ _ (λ j l. sym (k (i + (1 + j)) (omega arith) (λ q. omega arith))) in
      let b : value i f ≡ value i g = value_same i f g (λ j l. sym (k j (omega arith) (λ q. omega arith))) in
      let q : 2 ^ (64 + 64 * i) ≡ 2 ^ 64 * p = pow-add 2 64 (64 * i) in
      rw (value_above i m, value_low i (1 + m), a, b, q)
      (sym (value_split i (1 + m) g ∙ ap (λ (x : ℕ). x * p + value i g) (value_first m (λ j. g (i + j)))
      ∙ omega (arith, add-mul (above * 2 ^ 64) (g (i + 0)) p, mul_assoc above (2 ^ 64) p, ap (λ (x : ℕ). g x * p) (add-zero i), ap (λ (x : ℕ). x * p) e)))

  -- word i replaced
  pub value_put : (n i w : ℕ) (g : ℕ → ℕ) → i < n → g i ≡ w → ((j : ℕ) → j < n → (j ≡ i → ⊥) → g j ≡ f j) → put_word (value n f) i w ≡ value n g
  value_put n i w g l e k =
      let d : i + (1 + (n - i - 1)) ≡ n = omega arith in
      subst (λ (x : ℕ). put_word (value x f) i w ≡ value x g) d (put_parts i (n - i - 1) w g e (λ j b. k j (omega (arith, d))))

  -- where the number is 0, so is each word
  pub value_none : (n : ℕ) → value n f ≡ 0 → (i : ℕ) → i < n → f i ≡ 0
  value_none n e i l = sym (value_word n i l) ∙ ap (λ (x : ℕ). word_of x i) e ∙ ap (λ (x : ℕ). x % 2 ^ 64) (zero-div (2 ^ (64 * i)))

-- ---- the words of a number as a list

pub words_long : (n x : ℕ) → length (words_of n x) ≡ n
unfolding words_of
words_long zero x = refl
words_long (suc n) x = ap suc (words_long n (x / 2 ^ 64))

pub words_at : (n x i : ℕ) → i < n → get_or (words_of n x) i 0 ≡ word_of x i
unfolding words_of
words_at zero x i l = absurd (omega arith)
words_at (suc n) x zero l = ap (λ (y : ℕ). y % 2 ^ 64) (sym (div-one x))
words_at (suc n) x (suc i) l =
    words_at n (x / 2 ^ 64) i (omega arith) ∙ ap (λ (y : ℕ). y % 2 ^ 64) (shr-shr x 64 (64 * i) ∙ ap (λ (e : ℕ). x / 2 ^ e) (omega arith))

-- the words of the number that words make
pub words_value : (n m : ℕ) (ws : List ℕ) → n ≤ m → m ≡ length ws → ((i : ℕ) → get_or ws i 0 < 2 ^ 64) → words_of n (value m (λ i. get_or ws i 0)) ≡ take n ws
words_value n m ws l e h =
    ext_get_or 0 _ _ (words_long n _ ∙ sym (rw length-take (omega arith)))
    (λ i b. let c : i < n = omega (arith, words_long n (value m (λ i. get_or ws i 0))) in
    words_at n _ i c ∙ value_word (λ i. get_or ws i 0) h m i (omega arith) ∙ sym (get_or-take n ws i 0 c))

-- a number that n words hold
pub words_number : (n x : ℕ) → x < 2 ^ (64 * n) → value n (λ i. get_or (words_of n x) i 0) ≡ x
words_number n x h = value_same n _ (λ i. word_of x i) (λ i l. words_at n x i l) ∙ value_words n x ∙ mod-eq_of_lt h

-- a word of words stored
pub value_set : (n i w : ℕ) (ws : List ℕ) → i < n → n ≡ length ws → ((j : ℕ) → get_or ws j 0 < 2 ^ 64)
    → value n (λ j. get_or (set ws i w) j 0) ≡ put_word (value n (λ j. get_or ws j 0)) i w
value_set n i w ws l e h =
    sym (value_put (λ j. get_or ws j 0) h n i w (λ j. get_or (set ws i w) j 0) l (get_or-set_same ws i w 0 (omega arith)) (λ j b d. get_or-set_other ws i j w 0 d))
