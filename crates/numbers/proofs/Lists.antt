-- Laws of the number that a list of words holds: one word of it, whether it is 0, and whether it has c bits.
use mathlib.Core.Path.{◌≡◌, refl, sym, ap, subst, ◌∙◌}
use mathlib.Core.Bool.{◌&&◌}
use mathlib.Core.List.{List}
use Prim.Native.Nat.{ℕ, ◌+◌, ◌-◌, ◌*◌, ◌/◌, ◌%◌, ◌^◌, ◌≤◌, ◌<◌, min}
use native.Mathlib.Nat.{lt_of_lt_of_le, mod-lt, mod-eq_of_lt, div-eq_of_lt}
use native.Mathlib.Omega.{arith}
use lib.Dec.{eqb, eqb→eq, leb, leb→le, le→leb, ltb, ltb→lt, lt→ltb, nltb→le}
use lib.ListN.{length, get_or, set, take, length-set, get_or-eq_default}
use lib.Pow.{pow_pos, pow_mono, ones_split, ones_lt, le_ones, lt_of_le_ones, high, low, shr_lt}
use Rattle.fields.proofs.Laws.{put_lt}
use Rattle.tables.specs.Below.{all_below}
use Rattle.tables.specs.Parts.{part}
use Rattle.tables.specs.View.{union_below}
use Rattle.tables.proofs.Tests.{cases, and_l, and_r, and_in, eqb_in, same_test}
use Rattle.tables.proofs.Laws.{all_same}
use Rattle.tables.proofs.Parts.{part_at, part_length}
use Rattle.tables.proofs.Union.{union_zero, zero_union, union_same, low_test, union_low}
use Rattle.numbers.specs.Numbers.{value, words_for, number_in, word_of, put_word, words_of, number_at, numbers_of}
use Rattle.numbers.proofs.Words.{value_lt, value_top, value_high, value_word, value_none, none_value, value_pad, value_set, words_long, words_value, words_number}
use Rattle.numbers.proofs.Bits.{width_at}
use Rattle.numbers.proofs.Tables.{numbers_at}

-- ---- one word

pub number_word : (ws : List ℕ) → ((i : ℕ) → get_or ws i 0 < 2 ^ 64) → (i : ℕ) → get_or ws i 0 ≡ word_of (number_in ws) i
unfolding number_in
number_word ws h i =
    let f : ℕ → ℕ = λ j. get_or ws j 0 in
    let n = length ws in
    cases (λ b. get_or ws i 0 ≡ word_of (value n f) i) (ltb i n)
    (λ y. sym (value_word f h n i (ltb→lt i n y)))
    (λ y. let l = nltb→le i n y in
    let above : 64 * n ≤ 64 * i = omega arith in
    get_or-eq_default ws 0 {n = i} l ∙ sym (ap (λ (x : ℕ). x % 2 ^ 64) (div-eq_of_lt (lt_of_lt_of_le (value_lt n f h) (pow_mono above)))))

pub number_set : (ws : List ℕ) (i w : ℕ) → i < length ws → ((j : ℕ) → get_or ws j 0 < 2 ^ 64) → number_in (set ws i w) ≡ put_word (number_in ws) i w
unfolding number_in
number_set ws i w l h = rw (length-set ws i w) (value_set (length ws) i w ws l refl h)

-- its low words
pub number_words : (n : ℕ) (ws : List ℕ) → n ≤ length ws → ((i : ℕ) → get_or ws i 0 < 2 ^ 64) → words_of n (number_in ws) ≡ take n ws
unfolding number_in
number_words n ws l h = words_value n (length ws) ws l refl h

-- the number that the words of a number hold
pub words_number_in : (n x : ℕ) → x < 2 ^ (64 * n) → number_in (words_of n x) ≡ x
unfolding number_in
words_number_in n x h = rw (words_long n x) (words_number n x h)

-- ---- no bit is set

pub number_zero : (ws : List ℕ) → ((i : ℕ) → get_or ws i 0 < 2 ^ 64) → eqb (union_below (length ws) (λ i. get_or ws i 0)) 0 ≡ eqb (number_in ws) 0
unfolding number_in
number_zero ws h =
    let f : ℕ → ℕ = λ i. get_or ws i 0 in
    let n = length ws in
    same_test (eqb (union_below n f) 0) (eqb (value n f) 0) (λ t. eqb_in (value n f) 0 (none_value n f (union_zero n f (eqb→eq (union_below n f) 0 t))))
    (λ t. eqb_in (union_below n f) 0 (zero_union n f (value_none f h n (eqb→eq (value n f) 0 t))))

-- ---- no bit from c on is set

-- the words that hold c bits
pub words_hold : (c : ℕ) → 1 ≤ c → (1 ≤ words_for c) × ((64 * (words_for c - 1) < c) × (c ≤ 64 * (words_for c - 1) + 64))
unfolding words_for
words_hold c h = (omega arith, (omega arith, omega arith))

-- the bits that the highest of them has
abbrev pub top_bits : ℕ → ℕ
top_bits c = c - 64 * (words_for c - 1)

-- a number is what is left of it where it is small enough
cut_test : (c x : ℕ) → ltb x (2 ^ c) ≡ eqb x (x % 2 ^ c)
cut_test c x =
    same_test (ltb x (2 ^ c)) (eqb x (x % 2 ^ c)) (λ t. eqb_in x (x % 2 ^ c) (sym (mod-eq_of_lt (ltb→lt x (2 ^ c) t))))
    (λ t. lt→ltb x (2 ^ c) (subst (λ (y : ℕ). y < 2 ^ c) (sym (eqb→eq x (x % 2 ^ c) t)) (mod-lt x (pow_pos c))))

-- at most all ones
ones_test : (k x : ℕ) → leb x (2 ^ k - 1) ≡ ltb x (2 ^ k)
ones_test k x =
    same_test (leb x (2 ^ k - 1)) (ltb x (2 ^ k)) (λ t. lt→ltb x (2 ^ k) (lt_of_le_ones k (leb→le x (2 ^ k - 1) t)))
    (λ t. le→leb x (2 ^ k - 1) (le_ones k (ltb→lt x (2 ^ k) t)))

module _ (f : ℕ → ℕ) (h : (i : ℕ) → f i < 2 ^ 64) (m r : ℕ) where
  top_in : f m < 2 ^ r → value (m + 1) f < 2 ^ (r + 64 * m)
  top_in l = rw (value_top f m) (put_lt (f m) (64 * m) r (value m f) (value_lt m f h) l)

  top_out : value (m + 1) f < 2 ^ (r + 64 * m) → f m < 2 ^ r
  top_out l =
      let e : value (m + 1) f / 2 ^ (64 * m) ≡ f m = ap (λ (y : ℕ). y / 2 ^ (64 * m)) (value_top f m) ∙ high (f m) (64 * m) (value_lt m f h) in
      subst (λ (y : ℕ). y < 2 ^ r) e (shr_lt r (64 * m) l)

  -- the highest word tells
  top_test : ltb (f m) (2 ^ r) ≡ ltb (value (m + 1) f) (2 ^ (r + 64 * m))
  top_test =
      let x = value (m + 1) f in
      let end = 2 ^ (r + 64 * m) in
      same_test (ltb (f m) (2 ^ r)) (ltb x end) (λ t. lt→ltb x end (top_in (ltb→lt (f m) (2 ^ r) t))) (λ t. lt→ltb (f m) (2 ^ r) (top_out (ltb→lt x end t)))

  -- words above that are 0
  low_same : (j : ℕ) → ((i : ℕ) → i < j → f (m + 1 + i) ≡ 0) → value (m + 1 + j) f ≡ value (m + 1) f
  low_same j z =
      value_pad (m + 1) (m + 1 + j) f f (omega arith) (λ i l. refl)
      (λ i a b. let e : m + 1 + (i - (m + 1)) ≡ i = omega arith in subst (λ (k : ℕ). f k ≡ 0) e (z (i - (m + 1)) (omega arith)))

  high_none : (j : ℕ) → r ≤ 64 → value (m + 1 + j) f < 2 ^ (r + 64 * m) → (i : ℕ) → i < j → f (m + 1 + i) ≡ 0
  high_none j l b =
      let g : ℕ → ℕ = λ i. f (m + 1 + i) in
      let le : r + 64 * m ≤ 64 * (m + 1) = omega arith in
      value_none g (λ i. h (m + 1 + i)) j (sym (value_high f h (m + 1) j) ∙ div-eq_of_lt (lt_of_lt_of_le b (pow_mono le)))

  -- the highest word, and those above that are 0
  all_test : (j : ℕ) → r ≤ 64 → (eqb (union_below j (λ i. f (m + 1 + i))) 0 && ltb (f m) (2 ^ r)) ≡ ltb (value (m + 1 + j) f) (2 ^ (r + 64 * m))
  all_test j l =
      let u = union_below j (λ i. f (m + 1 + i)) in
      let x = value (m + 1 + j) f in
      let end = 2 ^ (r + 64 * m) in
      same_test (eqb u 0 && ltb (f m) (2 ^ r)) (ltb x end)
      (λ t. lt→ltb x end (rw (low_same j (union_zero j _ (eqb→eq u 0 (and_l (eqb u 0) (ltb (f m) (2 ^ r)) t)))) (top_in (ltb→lt (f m) (2 ^ r) (and_r (eqb u 0) (ltb (f m) (2 ^ r)) t)))))
      (λ t. let none = high_none j l (ltb→lt x end t) in
      and_in (eqb u 0) (ltb (f m) (2 ^ r)) (eqb_in u 0 (zero_union j _ none))
      (lt→ltb (f m) (2 ^ r) (top_out (subst (λ (y : ℕ). y < end) (low_same j none) (ltb→lt x end t)))))

-- words have no bit from c on where those above the words of c bits are 0, and the highest is no more than its ones
pub number_fits : (c : ℕ) (ws above : List ℕ) (union top : ℕ) → 1 ≤ c → words_for c ≤ length ws → ((i : ℕ) → get_or ws i 0 < 2 ^ 64)
    → above ≡ part (words_for c) (length ws - words_for c) ws → union ≡ union_below (length above) (λ i. get_or above i 0) → top ≡ 2 ^ top_bits c - 1
    → (eqb union 0 && leb (get_or ws (words_for c - 1) 0) top) ≡ eqb (number_in ws) (number_in ws % 2 ^ c)
unfolding number_in
number_fits c ws above union top s l h ea eu et =
    let n = words_for c in
    let m = n - 1 in
    let j = length ws - n in
    let f : ℕ → ℕ = λ i. get_or ws i 0 in
    let x = value (length ws) f in
    let w = words_hold c s in
    let en : m + 1 ≡ n = omega (arith, w.0) in
    let ej : m + 1 + j ≡ length ws = omega (arith, w.0) in
    let ec : top_bits c + 64 * m ≡ c = omega (arith, w.1.0) in
    let long : length above ≡ j = ap length ea ∙ part_length ws n j (omega arith) in
    let same : union ≡ union_below j (λ i. f (m + 1 + i)) =
    eu ∙ ap (λ (k : ℕ). union_below k (λ i. get_or above i 0)) long
    ∙ union_same j _ _ (λ i b. ap (λ (t : List ℕ). get_or t i 0) ea ∙ part_at ws n j i b ∙ ap (λ (k : ℕ). f (k + i)) (sym en)) in
    rw (same, et, ones_test (top_bits c) (f m))
    (all_test f h m (top_bits c) j (omega (arith, w.1.1)) ∙ ap (λ (k : ℕ). ltb (value k f) (2 ^ (top_bits c + 64 * m))) ej
    ∙ ap (λ (d : ℕ). ltb x (2 ^ d)) ec ∙ cut_test c x)

-- no number of a table has a bit from c on where the union of the highest words has none
pub tops_test : (c k bits top : ℕ) (t : List ℕ) → 1 ≤ c → ((i : ℕ) → get_or t i 0 < 2 ^ 64) → top ≡ 2 ^ top_bits c - 1
    → bits ≡ union_below k (λ p. get_or t (p * words_for c + (words_for c - 1)) 0)
    → leb bits top ≡ all_below k (λ p. eqb (get_or (numbers_of (words_for c) k t) p 0) (get_or (numbers_of (words_for c) k t) p 0 % 2 ^ c))
unfolding number_at
tops_test c k bits top t s h et eb =
    let n = words_for c in
    let m = n - 1 in
    let r = top_bits c in
    let w = words_hold c s in
    let en : m + 1 ≡ n = omega (arith, w.0) in
    let ec : r + 64 * m ≡ c = omega (arith, w.1.0) in
    rw (et, eb)
    (ones_test r _ ∙ sym (low_test r _) ∙ union_low r k (λ p. get_or t (p * n + m) 0)
    ∙ all_same k _ _ (λ p l. let f : ℕ → ℕ = λ i. get_or t (p * n + i) 0 in
    top_test f (λ i. h (p * n + i)) m r
    ∙ ap (λ (j : ℕ). ltb (value j f) (2 ^ (r + 64 * m))) en ∙ ap (λ (d : ℕ). ltb (value n f) (2 ^ d)) ec ∙ cut_test c (value n f)
    ∙ ap (λ (x : ℕ). eqb x (x % 2 ^ c)) (sym (numbers_at n k t p l))))

-- ---- all of c bits

ones_cut : (d : ℕ) → (2 ^ d - 1) % 2 ^ 64 ≡ 2 ^ min 64 d - 1
ones_cut d =
    cases (λ b. (2 ^ d - 1) % 2 ^ 64 ≡ 2 ^ min 64 d - 1) (ltb 64 d)
    (λ y. let e : d - 64 + 64 ≡ d = omega (arith, ltb→lt 64 d y) in
    let whole : min 64 d ≡ 64 = omega (arith, ltb→lt 64 d y) in
    ap (λ (k : ℕ). (2 ^ k - 1) % 2 ^ 64) (sym e) ∙ ap (λ (x : ℕ). x % 2 ^ 64) (ones_split (d - 64) 64) ∙ low (2 ^ (d - 64) - 1) 64 (ones_lt 64)
    ∙ sym (ap (λ (k : ℕ). 2 ^ k - 1) whole))
    (λ y. let l = nltb→le 64 d y in
    let all : min 64 d ≡ d = omega arith in
    mod-eq_of_lt (lt_of_lt_of_le (ones_lt d) (pow_mono l)) ∙ sym (ap (λ (k : ℕ). 2 ^ k - 1) all))

-- its words
pub ones_word : (c i : ℕ) → word_of (2 ^ c - 1) i ≡ 2 ^ width_at c i - 1
ones_word c i =
    let p = 64 * i in
    cases (λ b. word_of (2 ^ c - 1) i ≡ 2 ^ width_at c i - 1) (ltb p c)
    (λ y. let d = c - p in
    let e : d + p ≡ c = omega (arith, ltb→lt p c y) in
    ap (λ (k : ℕ). word_of (2 ^ k - 1) i) (sym e) ∙ ap (λ (x : ℕ). x / 2 ^ p % 2 ^ 64) (ones_split d p)
    ∙ ap (λ (x : ℕ). x % 2 ^ 64) (high (2 ^ d - 1) p (ones_lt p)) ∙ ones_cut d)
    (λ y. let none : width_at c i ≡ 0 = omega (arith, nltb→le p c y) in
    ap (λ (x : ℕ). x % 2 ^ 64) (div-eq_of_lt (lt_of_lt_of_le (ones_lt c) (pow_mono (nltb→le p c y)))) ∙ sym (ap (λ (k : ℕ). 2 ^ k - 1) none))
