-- What loops over the words of masks keep.
use mathlib.Core.Path.{◌≡◌, refl, sym, ap, ◌∙◌}
use mathlib.Core.List.{List, [], ◌∷◌, ◌++◌}
use Prim.Native.Nat.{ℕ, ◌+◌, ◌-◌, ◌*◌, ◌^◌, ◌≤◌, ◌<◌}
use native.Mathlib.Nat.{add-mul, one-mul, zero-mul, suc-mul, mul-le-mul_right, le_of_mul-le-mul_right}
use native.Mathlib.Omega.{arith}
use borrow.Author.Count.{below_more}
use lib.Bits.{bit_or}
use lib.Dec.{eqb, eqb→eq, leb, leb→le, nleb→lt}
use lib.ListN.{length, get_or, set, drop, length-set, length-append, get_or-append, replicate, length-replicate, get_or-replicate}
use lib.Seq.{get_or-set_same, get_or-set_other, get_or-append-add, ext_get_or}
use Rattle.std.specs.Prelude.{sum_by}
use Rattle.std.proofs.lemmas.List.Sums.{sum_by-cons}
use Rattle.tables.specs.Below.{sum_of}
use Rattle.tables.specs.Parts.{with_part}
use Rattle.tables.specs.View.{union_below}
use Rattle.tables.proofs.Tests.{cases, neqb}
use Rattle.tables.proofs.Laws.{get_or_zeros, drop_replicate, sum_of_none, sum_of_cons}
use Rattle.tables.proofs.Parts.{row_inside}
use Rattle.tables.proofs.Union.{union_none, union_next, union_same}
use Rattle.numbers.specs.Numbers.{value, words_for, number_in, words_of}
use Rattle.numbers.proofs.Words.{value_pad, words_long, words_at}
use Rattle.numbers.proofs.Bits.{width_at}
use Rattle.numbers.proofs.Tables.{filled_to, filled_next}
use Rattle.numbers.proofs.Lists.{words_hold, top_bits, ones_word, words_number_in}

-- ---- the sum over the words of a mask

pub sum_all : (f : ℕ → ℕ) (t : List ℕ) → sum_by f t ≡ sum_of f t
sum_all f [] = sym (sum_of_none f)
sum_all f (x ∷ t) = omega (arith, sum_all f t, sum_of_cons f x t, sum_by-cons f x t)

-- ---- a table of masks that is filled, one mask a turn

-- the next mask of n words lies among the k masks
pub next_inside : (n k i w : ℕ) → n ≡ w → i < k → i * n + n ≤ k * w
next_inside n k i w e l = omega (arith, row_inside k n i l, ap (λ (x : ℕ). k * x) e)

-- ---- a mask of 16 words filled from the front: i words of f, and 0 above

pub record Loaded (f : ℕ → ℕ) (mask : List ℕ) (i : ℕ) : Type 0 where
  pub long : length mask ≡ 16
  pub done : (k : ℕ) → k < i → get_or mask k 0 ≡ f k
  pub rest : (k : ℕ) → i ≤ k → get_or mask k 0 ≡ 0

module _ {f : ℕ → ℕ} where
  pub loaded_none : Loaded f (replicate 16 0) 0
  loaded_none = record { long = refl; done = λ k b. absurd (omega arith); rest = λ k b. get_or_zeros 16 k }

  pub loaded_next : {mask : List ℕ} {i w : ℕ} → i < 16 → w ≡ f i → Loaded f mask i → Loaded f (set mask i w) (i + 1)
  loaded_next {mask} {i} {w} l e d = record {
    long = length-set mask i w ∙ d.long;
    done =
        below_more (λ k. get_or (set mask i w) k 0 ≡ f k) i (λ k b. get_or-set_other mask i k w 0 (λ q. omega arith) ∙ d.done k b)
        (get_or-set_same mask i w 0 (omega (arith, d.long)) ∙ e);
    rest = λ k b. get_or-set_other mask i k w 0 (λ q. omega arith) ∙ d.rest k (omega arith);
  }

  pub loaded_end : {mask : List ℕ} {n : ℕ} → n ≤ 16 → Loaded f mask n → number_in mask ≡ value n f
  unfolding number_in
  loaded_end {mask} {n} l d = value_pad n (length mask) (λ k. get_or mask k 0) f (omega (arith, d.long)) d.done (λ k b c. d.rest k b)

-- n words of x over the first of 16 that are 0
pub loaded_front : (n x : ℕ) {front : List ℕ} → n ≤ 16 → front ≡ replicate n x → Loaded (λ k. x) (front ++ drop n (replicate 16 0)) n
loaded_front n x {front} l e =
    let long : length front ≡ n = ap length e ∙ length-replicate {A = ℕ} n x in
    let rest : ◌≡◌ {A = List ℕ} (drop n (replicate 16 0)) (replicate (16 - n) 0) = drop_replicate n 16 0 in
    let long_rest : length {A = ℕ} (replicate (16 - n) 0) ≡ 16 - n = length-replicate {A = ℕ} (16 - n) 0 in
    record {
      long = rw (rest, length-append) (omega arith);
      done = λ k b. get_or-append front (drop n (replicate 16 0)) 0 k (omega arith) ∙ ap (λ t. get_or t k 0) e ∙ get_or-replicate n k x 0 b;
      rest = λ k b. let at : k ≡ length front + (k - n) = omega arith in rw (at, get_or-append-add, rest) (get_or_zeros (16 - n) (k - n));
    }

-- all of c bits, once the highest word is set
pub all_ones : (c n top : ℕ) (mask : List ℕ) → 1 ≤ c → n ≡ words_for c → n ≤ 16 → top ≡ 2 ^ top_bits c - 1 → Loaded (λ k. 2 ^ 64 - 1) mask n
    → set mask (n - 1) top ≡ words_of 16 (2 ^ c - 1)
all_ones c n top mask s en l et d =
    let m = n - 1 in
    let u = set mask m top in
    let w = words_hold c s in
    ext_get_or 0 u (words_of 16 (2 ^ c - 1)) (length-set mask m top ∙ d.long ∙ sym (words_long 16 (2 ^ c - 1)))
    (λ i b. let c16 : i < 16 = omega (arith, length-set mask m top, d.long) in
    let ones : (k : ℕ) → width_at c i ≡ k → 2 ^ k - 1 ≡ get_or (words_of 16 (2 ^ c - 1)) i 0 =
    λ k e. sym (words_at 16 (2 ^ c - 1) i c16 ∙ ones_word c i ∙ ap (λ (k : ℕ). 2 ^ k - 1) e) in
    cases (λ y. get_or u i 0 ≡ get_or (words_of 16 (2 ^ c - 1)) i 0) (eqb i m)
    (λ y. let e = eqb→eq i m y in
    ap (λ (j : ℕ). get_or u j 0) e ∙ get_or-set_same mask m top 0 (omega (arith, d.long, w.0)) ∙ et ∙ ones (top_bits c) (omega (arith, w.0, w.1.0, w.1.1)))
    (λ y. let ne = neqb i m y in
    get_or-set_other mask m i top 0 ne
    ∙ cases (λ y. get_or mask i 0 ≡ get_or (words_of 16 (2 ^ c - 1)) i 0) (leb n i)
    (λ z. d.rest i (leb→le n i z) ∙ ones 0 (omega (arith, leb→le n i z, w.0, w.1.1)))
    (λ z. d.done i (nleb→lt n i z) ∙ ones 64 (omega (arith, nleb→lt n i z, ne, w.0, w.1.0)))))

-- ---- the highest words gathered: those of the numbers passed, and the place of the next one's

pub record Gathered (n len : ℕ) (f : ℕ → ℕ) (bits at : ℕ) : Type 0 where
  pub passed : ℕ
  pub next : at ≡ passed * n + (n - 1)
  pub inside : passed * n ≤ len
  pub union : bits ≡ union_below passed (λ p. f (p * n + (n - 1)))

module _ {n len : ℕ} {f : ℕ → ℕ} (s : 1 ≤ n) where
  pub gathered_none : Gathered n len f 0 (n - 1)
  gathered_none = record { passed = 0; next = omega (arith, zero-mul n); inside = omega (arith, zero-mul n); union = sym (union_none _) }

  pub gathered_next : {bits at w : ℕ} → at < len → w ≡ f at → Gathered n len f bits at → Gathered n len f (bit_or bits w) (at + n)
  gathered_next {bits} {at} {w} l e g =
      let p = g.passed in
      let more : (p + 1) * n ≡ p * n + n = omega (arith, add-mul p 1 n, one-mul n) in
      record {
        passed = p + 1;
        next = omega (arith, g.next);
        inside = omega (arith, g.next);
        union = rw (union_next, e, g.next, g.union) refl;
      }

  pub gathered_end : {bits at : ℕ} → len ≤ at → Gathered n len f bits at → (k : ℕ) → len ≡ k * n → bits ≡ union_below k (λ p. f (p * n + (n - 1)))
  gathered_end {bits} {at} l g k e =
      let p = g.passed in
      let below : p ≤ k = le_of_mul-le-mul_right (omega (arith, g.inside)) s in
      let same : p ≡ k =
      cases (λ y. p ≡ k) (leb k p) (λ y. omega (arith, leb→le k p y)) (λ y. absurd (omega (arith, mul-le-mul_right n (nleb→lt k p y), suc-mul p n, g.next))) in
      g.union ∙ ap (λ (x : ℕ). union_below x (λ p. f (p * n + (n - 1)))) same

-- masks of one word each are the table's words
pub one_word : (n : ℕ) (t : List ℕ) → n ≡ 1 → (bits : ℕ) → bits ≡ union_below (length t) (λ i. get_or t i 0)
    → (k : ℕ) → length t ≡ k * n → bits ≡ union_below k (λ p. get_or t (p * n + (n - 1)) 0)
one_word n t e bits h k l =
    let long : length t ≡ k = omega (arith, ap (λ (x : ℕ). k * x) e) in
    h ∙ ap (λ (x : ℕ). union_below x (λ i. get_or t i 0)) long
    ∙ union_same k _ _ (λ p b. let at : p ≡ p * n + (n - 1) = omega (arith, ap (λ (x : ℕ). p * x) e) in ap (λ (i : ℕ). get_or t i 0) at)

-- ---- masks filled one after the other with x, whose 16 words are given

module _ (n x : ℕ) where
  pub fill_turn : (w i : ℕ) {mask old new : List ℕ} → x < 2 ^ 1024 → mask ≡ words_of 16 x → old ≡ filled_to n x w i → new ≡ with_part (i * n) n old (words_of n (number_in mask))
      → new ≡ filled_to n x w (i + 1)
  fill_turn w i {mask} {old} {new} l em eo e = e ∙ rw (em, eo, words_number_in 16 x l) (filled_next n x w i)
