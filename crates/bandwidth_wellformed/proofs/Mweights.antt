-- The holders of a row have one Mweight exactly where no bit of it is in a word of the row and missing in one with blocks.
use mathlib.Core.Path.{◌≡◌, sym, ap, ap₂, ◌∙◌}
use mathlib.Core.Bool.{Bool, not, cond}
use mathlib.Core.List.{List}
use Prim.Native.Nat.{ℕ, ◌+◌, ◌-◌, ◌*◌, ◌/◌, ◌%◌, ◌^◌, ◌≤◌, ◌<◌, min}
use native.Mathlib.Nat.{le_trans}
use native.Mathlib.Omega.{arith}
use borrow.Author.Count.{below_more}
use lib.Dec.{T, eqb, eqb→eq, ltb, ltb→lt, nltb→le}
use lib.Bits.{bit_and, bit_xor, and_shr, and_mod, and_step, and_high, and_mask, xor_shr, xor_mod, xor_add_and, or_zero_r}
use lib.ListN.{get_or}
use lib.Pow.{pow_mono, pow_pos}
use Rattle.tables.specs.View.{union_below}
use Rattle.tables.proofs.Tests.{cases, not_both, neqb, cond_yes}
use Rattle.tables.proofs.Union.{union_mod, union_shr, union_same}
use Rattle.bandwidth_model.specs.Rules.{weight_of}
use Rattle.bandwidth_model.proofs.Words.{weight_lt}
use Rattle.bandwidth_wellformed.specs.Bits.{absent, absent_at, differing, weight_bits}
use Rattle.bandwidth_wellformed.proofs.Bits.{Has, has_not, union_has, has_union, covered, or_ge_l}

-- ---- bits

has_and : (k a b : ℕ) → bit_and a b / 2 ^ k % 2 ≡ min (a / 2 ^ k % 2) (b / 2 ^ k % 2)
has_and k a b = ap (λ (n : ℕ). n % 2) (and_shr a b k) ∙ last (a / 2 ^ k) (b / 2 ^ k)
  where
    last : (x y : ℕ) → bit_and x y % 2 ≡ min (x % 2) (y % 2)
    last x y = omega (arith, and_step x y)

has_none : (k : ℕ) → Has k 0 → ⊥
has_none k = has_not k 0 (pow_pos k)

-- of 8 bits, those that x lacks
abbrev Other : ℕ → Type 0
Other k = (x : ℕ) → x < 256 → (255 - x) / 2 ^ k % 2 ≡ 1 - x / 2 ^ k % 2

other_bit : (k : ℕ) → k < 8 → Other k
other_bit =
    below_more Other 7
    (below_more Other 6
    (below_more Other 5
    (below_more Other 4
    (below_more Other 3
    (below_more Other 2 (below_more Other 1 (below_more Other 0 (λ k l. absurd (omega arith)) (λ x h. omega arith)) (λ x h. omega arith)) (λ x h. omega arith)) (λ x h. omega arith))
    (λ x h. omega arith)) (λ x h. omega arith)) (λ x h. omega arith)) (λ x h. omega arith)

eight_bits : (k x : ℕ) → x < 256 → Has k x → k < 8
eight_bits k x h b = cases (λ c. k < 8) (ltb k 8) (ltb→lt k 8) (λ t. absurd (has_not k x (le_trans {m = 256} h (pow_mono {i = 8} {j = k} (nltb→le k 8 t))) b))

-- ---- numbers of 8 bits, some of which count

abbrev lacks : Bool → ℕ → ℕ
lacks b x = cond b (255 - x) 0

module _ (n : ℕ) (counts : ℕ → Bool) (x : ℕ → ℕ) (small : (a : ℕ) → x a < 256) where
  abbrev some : ℕ
  some = union_below n x

  abbrev less : ℕ
  less = union_below n (λ a. lacks (counts a) (x a))

  -- no bit is in one and missing in one that counts: each is at most any that counts
  module _ (z : bit_and some less ≡ 0) (a b : ℕ) (ha : a < n) (hb : b < n) (t : T (counts b)) where
    bit_in : (k : ℕ) → Has k (x a) → Has k (x b)
    bit_in k h =
        cases (λ c. Has k (x b)) (eqb (x b / 2 ^ k % 2) 1) (eqb→eq (x b / 2 ^ k % 2) 1)
        (λ u. let d = neqb (x b / 2 ^ k % 2) 1 u in
        let missing : Has k (lacks (counts b) (x b)) =
        rw (cond_yes (counts b) (255 - x b) 0 t) (omega (arith, other_bit k (eight_bits k (x a) (small a) h) (x b) (small b))) in
        let both : Has k (bit_and some less) = omega (arith, has_and k some less, union_has n x k a ha h, union_has n (λ a. lacks (counts a) (x a)) k b hb missing) in
        absurd (has_none k (ap (λ (v : ℕ). v / 2 ^ k % 2) (sym z) ∙ both)))

    at_most : x a ≤ x b
    at_most = omega (arith, covered (x a) (x a) (x b) (omega arith) bit_in, or_ge_l (x a) (x b))

  none_one : bit_and some less ≡ 0 → (a b : ℕ) → a < n → b < n → T (counts a) → T (counts b) → x a ≡ x b
  none_one z a b ha hb s t = omega (arith, at_most z a b ha hb t, at_most z b a hb ha s)

  -- beside one that counts the others are 0, and those that count are one
  module _ (zero : (a b : ℕ) → a < n → b < n → T (not (counts a)) → T (counts b) → x a ≡ 0) (one : (a b : ℕ) → a < n → b < n → T (counts a) → T (counts b) → x a ≡ x b) where
    -- a bit of one is none that another lacks
    clash : (k a b : ℕ) → a < n → b < n → T (counts b) → Has k (x a) → Has k (255 - x b) → ⊥
    clash k a b ha hb t h m =
        cases (λ c. ⊥) (counts a)
        (λ s. let own : Has k (x b) = ap (λ (v : ℕ). v / 2 ^ k % 2) (sym (one a b ha hb s t)) ∙ h in
        omega (arith, other_bit k (eight_bits k (x b) (small b) own) (x b) (small b)))
        (λ s. has_none k (ap (λ (v : ℕ). v / 2 ^ k % 2) (sym (zero a b ha hb s t)) ∙ h))

    missing_bit : (k a b : ℕ) → a < n → b < n → Has k (x a) → Has k (lacks (counts b) (x b)) → Has k 0
    missing_bit k a b ha hb h =
        cases (λ c. Has k (lacks c (x b)) → Has k 0) (counts b) (λ t m. absurd (clash k a b ha hb t h m)) (λ t m. m)

    no_bit : (k : ℕ) → Has k (bit_and some less) → Has k 0
    no_bit k h =
        let p = has_union n x k (omega (arith, has_and k some less)) in
        let q = has_union n (λ a. lacks (counts a) (x a)) k (omega (arith, has_and k some less)) in
        missing_bit k p.at q.at p.below q.below p.has q.has

    one_none : bit_and some less ≡ 0
    one_none = let v = bit_and some less in sym (or_zero_r v) ∙ covered v v 0 (omega arith) no_bit

-- ---- the Mweight of a word

abbrev has_blocks : ℕ → Bool
has_blocks w = not (eqb (w % 65536) 0)

weight_and : (a b : ℕ) → weight_of (bit_and a b) ≡ bit_and (weight_of a) (weight_of b)
unfolding weight_of
weight_and a b = ap (λ (v : ℕ). v % 2 ^ 8) (and_shr a b 20) ∙ and_mod (a / 2 ^ 20) (b / 2 ^ 20) 8

weight_union : (n : ℕ) (f : ℕ → ℕ) → weight_of (union_below n f) ≡ union_below n (λ a. weight_of (f a))
unfolding weight_of
weight_union n f = ap (λ (v : ℕ). v % 2 ^ 8) (union_shr 20 n f) ∙ union_mod 8 n (λ a. f a / 2 ^ 20)

weight_other : (w : ℕ) → weight_of (bit_xor w 0x0ff00000) ≡ 255 - weight_of w
unfolding weight_of
weight_other w =
    let x = w / 2 ^ 20 % 2 ^ 8 in
    let m : bit_and x 255 ≡ x % 2 ^ 8 = and_mask x 8 in
    ap (λ (v : ℕ). v % 2 ^ 8) (xor_shr w 0x0ff00000 20) ∙ xor_mod (w / 2 ^ 20) 255 8 ∙ omega (arith, xor_add_and x 255)

weight_absent : (w : ℕ) → weight_of (absent w) ≡ lacks (has_blocks w) (weight_of w)
unfolding absent weight_of
weight_absent w = cases (λ b. weight_of (cond b (bit_xor w 0x0ff00000) 0) ≡ lacks b (weight_of w)) (has_blocks w) (λ t. weight_other w) (λ t. omega arith)

weight_place : (n : ℕ) → bit_and n 0x0ff00000 ≡ weight_of n * 2 ^ 20
unfolding weight_of
weight_place n = and_high n 8 20

-- ---- the row of the words from base on

module _ (na : ℕ) (t : List ℕ) (base : ℕ) where
  abbrev word : ℕ → ℕ
  word a = get_or t (base + a) 0

  abbrev weights : ℕ
  weights = bit_and (union_below na (λ a. weight_of (word a))) (union_below na (λ a. lacks (has_blocks (word a)) (weight_of (word a))))

  bits_are : weight_bits na t base ≡ weights * 2 ^ 20
  unfolding weight_bits differing absent_at
  bits_are =
      let u = union_below na word in
      let v = union_below na (λ a. absent (word a)) in
      weight_place (bit_and u v)
      ∙ ap (λ (x : ℕ). x * 2 ^ 20)
      (weight_and u v ∙ ap₂ bit_and (weight_union na word) (weight_union na (λ a. absent (word a)) ∙ union_same na _ _ (λ a l. weight_absent (word a))))

  pub row_one : weight_bits na t base ≡ 0 → (a b : ℕ) → a < na → b < na → T (has_blocks (word a)) → T (has_blocks (word b)) → weight_of (word a) ≡ weight_of (word b)
  row_one z = none_one na (λ a. has_blocks (word a)) (λ a. weight_of (word a)) (λ a. weight_lt (word a)) (omega (arith, bits_are))

  pub one_row : ((a b : ℕ) → a < na → b < na → T (not (has_blocks (word a))) → T (has_blocks (word b)) → weight_of (word a) ≡ 0)
      → ((a b : ℕ) → a < na → b < na → T (has_blocks (word a)) → T (has_blocks (word b)) → weight_of (word a) ≡ weight_of (word b)) → weight_bits na t base ≡ 0
  one_row zero one = omega (arith, bits_are, one_none na (λ a. has_blocks (word a)) (λ a. weight_of (word a)) (λ a. weight_lt (word a)) zero one)

-- a row of one word
pub one_word : (t : List ℕ) (base : ℕ) → weight_bits 1 t base ≡ 0
one_word t base =
    one_row 1 t base
    (λ a b l m n h. let e : b ≡ a = omega arith in absurd (not_both (has_blocks (get_or t (base + a) 0)) (rw e at h) n))
    (λ a b l m h k. let e : a ≡ b = omega arith in ap (λ (i : ℕ). weight_of (get_or t (base + i) 0)) e)
