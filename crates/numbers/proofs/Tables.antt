-- Laws of tables of numbers of n words: one stored at its place is there, and the others stay.
use mathlib.Core.Path.{◌≡◌, refl, sym, ap, subst, ◌∙◌}
use mathlib.Core.List.{List, [], ◌∷◌, ◌++◌, append_assoc, append-nil}
use Prim.Native.Nat.{ℕ, zero, suc, ◌+◌, ◌-◌, ◌*◌, ◌^◌, ◌≤◌, ◌<◌}
use native.Mathlib.Nat.{add_comm, add-mul, mul-le-mul_right, zero-mul, suc-mul}
use native.Mathlib.Omega.{arith}
use borrow.Author.Count.{below_more}
use lib.Dec.{eqb, eqb→eq, leb, leb→le, nleb→lt}
use lib.ListN.{length, get_or, set, length-set, length-append, get_or-append, replicate, length-replicate, replicate-append-replicate}
use lib.Seq.{get_or-set_same, get_or-set_other, get_or-append_seam, get_or-append-add, take-append-add, drop-append-add, ext_get_or, take_at, drop_at}
use Rattle.tables.specs.Parts.{with_part}
use Rattle.tables.proofs.Tests.{cases, neqb}
use Rattle.tables.proofs.Laws.{drop_replicate}
use Rattle.tables.proofs.Parts.{with_at, with_below, with_above}
use Rattle.numbers.specs.Numbers.{number_at, numbers_of, with_number, words_of, words_of_all}
use Rattle.numbers.proofs.Words.{value_same, words_long, words_number}

-- ---- the numbers of a table

pub numbers_long : (n k : ℕ) (t : List ℕ) → length (numbers_of n k t) ≡ k
unfolding numbers_of
numbers_long n zero t = refl
numbers_long n (suc k) t = omega (arith, length-append (numbers_of n k t) (number_at n t (k * n) ∷ []), numbers_long n k t)

pub numbers_at : (n k : ℕ) (t : List ℕ) (i : ℕ) → i < k → get_or (numbers_of n k t) i 0 ≡ number_at n t (i * n)
unfolding numbers_of
numbers_at n zero t i l = absurd (omega arith)
numbers_at n (suc k) t i l =
    let ys : List ℕ = number_at n t (k * n) ∷ [] in
    below_more (λ j. get_or (numbers_of n k t ++ ys) j 0 ≡ number_at n t (j * n)) k
    (λ j b. get_or-append (numbers_of n k t) ys 0 j (omega (arith, numbers_long n k t)) ∙ numbers_at n k t j b)
    (subst (λ (j : ℕ). get_or (numbers_of n k t ++ ys) j 0 ≡ number_at n t (k * n)) (numbers_long n k t) (get_or-append_seam (numbers_of n k t) (number_at n t (k * n)) [] 0))
    i (omega arith)

-- ---- a number stored

module _ (n k p x : ℕ) (t : List ℕ) (l : p < k) (b : length t ≡ k * n) where
  room : p * n + n ≤ length t
  room = omega (arith, suc-mul p n, mul-le-mul_right n l)

  with_same : x < 2 ^ (64 * n) → number_at n (with_number n t p x) (p * n) ≡ x
  unfolding with_number number_at
  with_same h = value_same n _ _ (λ i c. with_at t (p * n) n (words_of n x) room (words_long n x) i c) ∙ words_number n x h

  with_other : (i : ℕ) → (i ≡ p → ⊥) → number_at n (with_number n t p x) (i * n) ≡ number_at n t (i * n)
  unfolding with_number number_at
  with_other i d =
      value_same n _ _
      (λ j c. cases (λ y. get_or (with_part (p * n) n t (words_of n x)) (i * n + j) 0 ≡ get_or t (i * n + j) 0) (leb p i)
      (λ y. let le : p + 1 ≤ i = omega (arith, leb→le p i y, d) in
      let e : i * n + j ≡ p * n + (n + (i * n + j - (p * n + n))) = omega (arith, suc-mul p n, mul-le-mul_right n le) in
      rw e (with_above t (p * n) n (words_of n x) room (words_long n x) (i * n + j - (p * n + n))))
      (λ y. with_below t (p * n) n (words_of n x) room (words_long n x) (i * n + j) (omega (arith, suc-mul i n, mul-le-mul_right n (nleb→lt p i y)))))

  -- is one entry set
  pub numbers_stored : x < 2 ^ (64 * n) → numbers_of n k (with_number n t p x) ≡ set (numbers_of n k t) p x
  numbers_stored h =
      let u = with_number n t p x in
      let xs = numbers_of n k t in
      ext_get_or 0 (numbers_of n k u) (set xs p x) (numbers_long n k u ∙ sym (length-set xs p x ∙ numbers_long n k t))
      (λ i c. let d : i < k = omega (arith, numbers_long n k u) in
      numbers_at n k u i d
      ∙ cases (λ y. number_at n u (i * n) ≡ get_or (set xs p x) i 0) (eqb i p)
      (λ y. rw (eqb→eq i p y) (with_same h ∙ sym (get_or-set_same xs p x 0 (omega (arith, numbers_long n k t)))))
      (λ y. let e = neqb i p y in
      with_other i e ∙ sym (get_or-set_other xs p i x 0 e ∙ numbers_at n k t i d)))

-- ---- the words of all numbers

pub all_long : (n : ℕ) (xs : List ℕ) → length (words_of_all n xs) ≡ length xs * n
unfolding words_of_all
all_long n [] = sym (zero-mul n)
all_long n (x ∷ xs) = simp (length-append, words_long, all_long n xs, suc-mul) (omega arith)

-- the words of one
all_at : (n : ℕ) (xs : List ℕ) (i j : ℕ) → i < length xs → j < n → get_or (words_of_all n xs) (i * n + j) 0 ≡ get_or (words_of n (get_or xs i 0)) j 0
unfolding words_of_all
all_at n [] i j l c = absurd (omega arith)
all_at n (x ∷ xs) zero j l c =
    ap (λ (k : ℕ). get_or (words_of n x ++ words_of_all n xs) k 0) (omega (arith, zero-mul n)) ∙ get_or-append (words_of n x) (words_of_all n xs) 0 j (omega (arith, words_long n x))
all_at n (x ∷ xs) (suc i) j l c =
    ap (λ (k : ℕ). get_or (words_of n x ++ words_of_all n xs) k 0) (omega (arith, words_long n x, suc-mul i n))
    ∙ get_or-append-add (words_of n x) (words_of_all n xs) (i * n + j) 0 ∙ all_at n xs i j (omega arith) c

-- the numbers of a table that has the words of numbers
pub numbers_all : (n k : ℕ) (xs : List ℕ) → length xs ≡ k → ((i : ℕ) → get_or xs i 0 < 2 ^ (64 * n)) → numbers_of n k (words_of_all n xs) ≡ xs
unfolding number_at
numbers_all n k xs e h =
    ext_get_or 0 _ xs (numbers_long n k (words_of_all n xs) ∙ sym e)
    (λ i b. let c : i < k = omega (arith, numbers_long n k (words_of_all n xs)) in
    numbers_at n k (words_of_all n xs) i c ∙ value_same n _ _ (λ j d. all_at n xs i j (omega arith) d) ∙ words_number n (get_or xs i 0) (h i))

-- a part behind a front of n entries
part_behind : (n a m : ℕ) (xs ys u : List ℕ) → length xs ≡ n → with_part (n + a) m (xs ++ ys) u ≡ xs ++ with_part a m ys u
part_behind n a m xs ys u e = rw (← e, take-append-add, drop-append-add, append_assoc)

-- the words of numbers with another one at p
pub all_set : (n : ℕ) (xs : List ℕ) (p x : ℕ) → p < length xs → words_of_all n (set xs p x) ≡ with_number n (words_of_all n xs) p x
unfolding words_of_all with_number
all_set n [] p x l = absurd (omega arith)
all_set n (y ∷ ys) zero x l = rw (zero-mul, drop_at (words_of n y) (words_of_all n ys) n (words_long n y)) refl
all_set n (y ∷ ys) (suc p) x l =
    rw (all_set n ys p x (omega arith), suc-mul, add_comm (p * n) n) (sym (part_behind n (p * n) n (words_of n y) (words_of_all n ys) (words_of n x) (words_long n y)))

-- ---- a table whose first numbers are x, and the others 0

all_append : (n : ℕ) (xs ys : List ℕ) → words_of_all n (xs ++ ys) ≡ words_of_all n xs ++ words_of_all n ys
unfolding words_of_all
all_append n [] ys = refl
all_append n (x ∷ xs) ys = rw (all_append n xs ys, append_assoc)

zero_words : (n : ℕ) → words_of n 0 ≡ replicate n 0
unfolding words_of
zero_words zero = refl
zero_words (suc n) = ap (λ (ws : List ℕ). 0 ∷ ws) (zero_words n)

all_zero : (n k : ℕ) → words_of_all n (replicate k 0) ≡ replicate (k * n) 0
unfolding words_of_all
all_zero n zero = rw zero-mul
all_zero n (suc k) = rw (zero_words n, all_zero n k, replicate-append-replicate, suc-mul, add_comm n)

-- i numbers of w words are x
unfoldable pub filled_to : ℕ → ℕ → ℕ → ℕ → List ℕ
filled_to n x w i = words_of_all n (replicate i x) ++ replicate (w - i * n) 0

module _ (n x w : ℕ) where
  front_long : (i : ℕ) → length (words_of_all n (replicate i x)) ≡ i * n
  front_long i = all_long n (replicate i x) ∙ rw (length-replicate {A = ℕ} i x)

  pub filled_none : replicate w 0 ≡ filled_to n x w 0
  unfolding filled_to words_of_all
  filled_none = let e : w ≡ w - 0 * n = omega (arith, zero-mul n) in ap (λ (k : ℕ). replicate k 0) e

  pub filled_next : (i : ℕ) → with_part (i * n) n (filled_to n x w i) (words_of n x) ≡ filled_to n x w (i + 1)
  unfolding filled_to words_of_all
  filled_next i =
      let front = words_of_all n (replicate i x) in
      let rest : w - i * n - n ≡ w - (i + 1) * n = omega (arith, add-mul i 1 n) in
      let more : words_of_all n (replicate (i + 1) x) ≡ front ++ words_of n x =
      ap (words_of_all n) (sym (replicate-append-replicate i 1 x)) ∙ all_append n (replicate i x) (x ∷ []) ∙ ap (λ (ws : List ℕ). front ++ ws) (append-nil (words_of n x)) in
      rw (take_at front (replicate (w - i * n) 0) (i * n) (front_long i), drop_at front (replicate (w - i * n) 0) (i * n) (front_long i), drop_replicate n (w - i * n) 0, rest, more, append_assoc)

  pub filled_all : (k m : ℕ) → w ≡ (k + m) * n → filled_to n x w k ≡ words_of_all n (replicate k x ++ replicate m 0)
  unfolding filled_to
  filled_all k m e =
      let rest : w - k * n ≡ m * n = omega (arith, add-mul k m n) in
      rw (rest, all_append, all_zero n m)
