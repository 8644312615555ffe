-- One turn of each pass, and the tables that a pass leaves out.
use mathlib.Core.Path.{◌≡◌, refl, sym, ap, ◌∙◌}
use mathlib.Core.Bool.{true, not, cond, ◌||◌}
use mathlib.Core.List.{List, [], ◌∷◌, ◌++◌}
use Prim.Native.Nat.{ℕ, ◌+◌, ◌*◌, ◌/◌, ◌%◌, ◌^◌, ◌≤◌, ◌<◌}
use native.Mathlib.Nat.{zero-mul, one-mul, mul-le-mul, mul-le-mul_left, mod-eq_of_lt, le_trans}
use native.Mathlib.Omega.{arith}
use borrow.Author.Count.{below_more}
use lib.Bits.{bit_or}
use lib.Dec.{T, eqb, eqb→eq, leb, leb→le, le→leb}
use lib.ListN.{length, get_or, length-append}
use lib.Pow.{pow_mono, shr-shr}
use Rattle.tables.specs.Below.{sum_below, all_below}
use Rattle.tables.specs.View.{union_below}
use Rattle.bandwidth_model.specs.Rules.{weight_of, shared_at_of, use_shared_of}
use Rattle.tables.proofs.Tests.{cases, and_l, and_r, and_in, or_else, is_true, cond_yes, eqb_in, neqb}
use Rattle.tables.proofs.Laws.{sum_le, sum_zero, all_at, all_in}
use Rattle.tables.proofs.Parts.{row_inside}
use Rattle.tables.proofs.Union.{zero_union, union_next}
use Rattle.bandwidth_wellformed.specs.Bits.{form_at, blocks_at, mark_at, sharing_bits, weight_bits, row_right, right_at, row_plain, over_at, AtMost}
use Rattle.bandwidth_wellformed.specs.Tables.{TableSummed}
use Rattle.bandwidth_wellformed.proofs.Bits.{or_ge_l, or_ge_r, Has, union_has, union_ge}
use Rattle.bandwidth_wellformed.proofs.Forms.{unset, form_of, low_blocks}
use Rattle.bandwidth_wellformed.proofs.Marks.{Led, held_row}
use Rattle.bandwidth_wellformed.proofs.Mweights.{one_row, one_word}

-- ---- sizes

-- shifts that lose nothing
pub shift_some : (a : ℕ) → a < 8 → 16777216 * 2 ^ a % 4294967296 ≡ 16777216 * 2 ^ a
shift_some a h = let p : 2 ^ a ≤ 128 = pow_mono {i = a} {j = 7} (omega arith) in mod-eq_of_lt (omega arith)

pub shift_shared : (w : ℕ) → w < 4294967296 → 1 * 2 ^ (w / 268435456) % 4294967296 ≡ 2 ^ (w / 2 ^ 28)
shift_shared w h =
    let p : 2 ^ (w / 268435456) ≤ 32768 = pow_mono {i = w / 268435456} {j = 15} (omega arith) in
    mod-eq_of_lt (omega arith) ∙ one-mul (2 ^ (w / 268435456))

-- the bytes of all blocks of a word
pub bytes_le : {b q : ℕ} → b < 65536 → q ≤ 65536 → b * q ≤ 4294901760
bytes_le {b} {q} h k = mul-le-mul {n₁ = b} {m₁ = q} {n₂ = 65535} {m₂ = 65536} (omega arith) k

-- the blocks of n words
pub blocks_low : (t : List ℕ) (n : ℕ) → sum_below n (blocks_at t) ≤ 65535 * n
unfolding blocks_at
blocks_low t n = sum_le n 65535 (blocks_at t) (λ k l. omega arith)

-- ---- a number that no word is above

module _ (f : ℕ → ℕ) where
  pub at_most_none : (m : ℕ) → AtMost f 0 m
  at_most_none m = record { each = λ k b. absurd (omega arith) }

  pub at_most_next : (i m : ℕ) → AtMost f i m → AtMost f (i + 1) (bit_or m (f i))
  at_most_next i m h = record { each = below_more (λ j. f j ≤ bit_or m (f i)) i (λ j b. le_trans (h.each j b) (or_ge_l m (f i))) (or_ge_r m (f i)) }

-- ---- one turn over pairs: the words of two parts, side by side

module _ {P : Type 0} (f : ℕ → ℕ) (xs : List P) (p : P) where
  one_more : length (xs ++ (p ∷ [])) ≡ length xs + 1
  one_more = length-append xs (p ∷ [])

  pub at_most_pair : (m w : ℕ) → w ≡ f (length xs) → AtMost f (length xs) m → AtMost f (length (xs ++ (p ∷ []))) (bit_or m w)
  at_most_pair m w e h = rw (one_more, e) (at_most_next f (length xs) m h)

  pub union_pair : (m w : ℕ) → w ≡ f (length xs) → m ≡ union_below (length xs) f → bit_or m w ≡ union_below (length (xs ++ (p ∷ []))) f
  union_pair m w e h = rw (one_more, e, h) (sym (union_next (length xs) f))

-- ---- tables in which nothing is wrong

-- no number up to 8 but 8 has none of the bits 2:0
eight : {x y z : ℕ} → x / 2 ≡ y → y / 2 ≡ z → 0 < x → x ≤ 8 → x % 2 ≡ 0 → y % 2 ≡ 0 → z % 2 ≡ 0 → x ≡ 8
eight d e p l a b c = omega arith

-- the words of n rows, with all their bits
module _ (na n : ℕ) (t : List ℕ) (any : ℕ) (u : any ≡ union_below (n * na) (λ k. get_or t k 0)) where
  -- the word at AT a of row k
  abbrev word : ℕ → ℕ → ℕ
  word k a = get_or t (k * na + a) 0

  word_bit : (j k a : ℕ) → k < n → a < na → Has j (word k a) → Has j any
  word_bit j k a b l h = rw u (union_has (n * na) (λ i. get_or t i 0) j (k * na + a) (omega (arith, row_inside n na k b)) h)

  word_low : (k a : ℕ) → k < n → a < na → word k a ≤ any
  word_low k a b l = rw u (union_ge (n * na) (λ i. get_or t i 0) (k * na + a) (omega (arith, row_inside n na k b)))

  -- the row k names what it may, and its words with blocks have one Mweight
  right : (k : ℕ) → k < n → ((a : ℕ) → a < na → Led na (word k) a) → any < 4294967296 → weight_bits na t (k * na) ≡ 0 → T (right_at na t k)
  unfolding right_at row_right sharing_bits mark_at
  right k b f s z =
      and_in (eqb (sharing_bits na t (k * na)) 0) (eqb (weight_bits na t (k * na)) 0)
      (eqb_in _ 0 (held_row na (word k) (λ a l. omega (arith, word_low k a b l)) f)) (eqb_in _ 0 z)

  -- none names an AT
  names_none : any / 2 ^ 28 ≡ 0 → (k : ℕ) → k < n → (a : ℕ) → a < na → Led na (word k) a
  names_none s k b a l p = absurd (omega (arith, word_low k a b l))

  -- a bit that is not in any is in no word
  bit_none : (j k a : ℕ) → k < n → a < na → any / 2 ^ j % 2 ≡ 0 → word k a / 2 ^ j % 2 ≡ 0
  bit_none j k a b l z =
      cases (λ c. word k a / 2 ^ j % 2 ≡ 0) (eqb (word k a / 2 ^ j % 2) 1)
      (λ h. absurd (omega (arith, word_bit j k a b l (eqb→eq (word k a / 2 ^ j % 2) 1 h)))) (λ h. let d = neqb (word k a / 2 ^ j % 2) 1 h in omega arith)

  -- none names an AT other than 0, which has blocks
  names_first : any / 2 ^ 28 ≡ 8 → (k : ℕ) → k < n → T (not (eqb (get_or t (k * na) 0 % 65536) 0) || eqb (union_below na (word k) / 2 ^ 28) 0) → (a : ℕ) → a < na → Led na (word k) a
  unfolding use_shared_of shared_at_of
  names_first s k b f a l p =
      let w = word k a in
      let named : w / 2 ^ 28 ≡ 8 =
      eight (shr-shr w 28 1) (shr-shr w 29 1) p (omega (arith, word_low k a b l)) (bit_none 28 k a b l (omega arith)) (bit_none 29 k a b l (omega arith)) (bit_none 30 k a b l (omega arith)) in
      let own : k * na ≡ k * na + shared_at_of w = omega arith in
      let held : get_or t (k * na) 0 % 65536 ≡ 0 → ⊥ =
      or_else (not (eqb (get_or t (k * na) 0 % 65536) 0)) (eqb (union_below na (word k) / 2 ^ 28) 0) f (neqb (get_or t (k * na) 0 % 65536) 0)
      (λ z e. omega (arith, eqb→eq (union_below na (word k) / 2 ^ 28) 0 z, union_ge na (word k) a l)) in
      (omega arith, (omega arith, λ z. held (ap (λ (i : ℕ). get_or t i 0 % 65536) own ∙ low_blocks (word k (shared_at_of w)) ∙ z)))

  -- so plain rows are right
  pub plain_right : T (eqb (any / 2 ^ 28) 0 || eqb (any / 2 ^ 28) 8) → T (all_below n (λ k. row_plain na t (k * na))) → all_below n (right_at na t) ≡ true
  unfolding row_plain
  plain_right h f =
      is_true _ (all_in n (right_at na t) (λ k b.
      let row = all_at n (λ k. row_plain na t (k * na)) f k b in
      let z = eqb→eq (weight_bits na t (k * na)) 0 (and_l (eqb (weight_bits na t (k * na)) 0) _ row) in
      let first = and_r (eqb (weight_bits na t (k * na)) 0) _ row in
      or_else (eqb (any / 2 ^ 28) 0) (eqb (any / 2 ^ 28) 8) h
      (λ e. let s = eqb→eq (any / 2 ^ 28) 0 e in right k b (names_none s k b) (omega arith) z)
      (λ e. let s = eqb→eq (any / 2 ^ 28) 8 e in right k b (names_first s k b first) (omega arith) z)))

  -- and so are rows that name none, without a Mweight or of one word
  pub light_right : any / 2 ^ 20 ≡ 0 → all_below n (right_at na t) ≡ true
  unfolding weight_of
  light_right s =
      is_true _ (all_in n (right_at na t) (λ k b.
      let light : (a : ℕ) → a < na → weight_of (word k a) ≡ 0 = λ a l. omega (arith, word_low k a b l) in
      right k b (names_none (omega arith) k b) (omega arith) (one_row na t (k * na) (λ a c l m e d. light a l) (λ a c l m d e. light a l ∙ sym (light c m)))))

  pub single_right : na ≡ 1 → any / 2 ^ 28 ≡ 0 → all_below n (right_at na t) ≡ true
  single_right e s =
      is_true _ (all_in n (right_at na t) (λ k b. right k b (names_none s k b) (omega arith) (ap (λ (m : ℕ). weight_bits m t (k * na)) e ∙ one_word t (k * na))))

-- every word is 0
pub zeros_summed : (na n : ℕ) (t : List ℕ) → AtMost (λ k. get_or t k 0) (n * na) 0 → TableSummed na t n (record { form = 0; rows = true; blocks = 0 })
unfolding form_at blocks_at
zeros_summed na n t h =
    let none : (k : ℕ) → k < n * na → get_or t k 0 ≡ 0 = λ k b. omega (arith, h.each k b) in
    record {
      form = sym (zero_union (n * na) (form_at t) (λ k b. form_of (get_or t k 0) (omega (arith, none k b)) (unset (none k b))));
      rows = sym (light_right na n t 0 (sym (zero_union (n * na) (λ k. get_or t k 0) none)) refl);
      blocks = sym (sum_zero (n * na) (blocks_at t) (λ k b. omega (arith, none k b)));
    }

-- no rows
pub none_summed : (na : ℕ) (t : List ℕ) → TableSummed na t 0 (record { form = 0; rows = true; blocks = 0 })
none_summed na t = zeros_summed na 0 t (record { each = λ k b. absurd (omega (arith, zero-mul na)) })

-- ---- not too much used

module _ (q : ℕ) (active used : List ℕ) (k : ℕ) where
  within : get_or used k 0 ≤ blocks_at active k * q → over_at q active used k ≡ 0
  unfolding over_at
  within h = cond_yes (leb (get_or used k 0) (blocks_at active k * q)) 0 4294967295 (le→leb (get_or used k 0) (blocks_at active k * q) h)

  not_over : over_at q active used k ≡ 0 → get_or used k 0 ≤ blocks_at active k * q
  unfolding over_at
  not_over =
      cases (λ b. ◌≡◌ {A = ℕ} (cond b 0 4294967295) 0 → get_or used k 0 ≤ blocks_at active k * q) (leb (get_or used k 0) (blocks_at active k * q))
      (λ t e. leb→le (get_or used k 0) (blocks_at active k * q) t) (λ t e. absurd (omega arith))

module _ (q : ℕ) (active used : List ℕ) (n : ℕ) {any : ℕ} (z : any ≡ 0) where
  -- nothing is used
  pub used_none : AtMost (λ k. get_or used k 0) n any → union_below n (over_at q active used) ≡ 0
  used_none h = zero_union n (over_at q active used) (λ k b. within q active used k (omega (arith, h.each k b)))

  -- no more than a smaller q allows
  pub rough_none : (p : ℕ) → p ≤ q → AtMost (over_at p active used) n any → union_below n (over_at q active used) ≡ 0
  rough_none p l h =
      zero_union n (over_at q active used)
      (λ k b. within q active used k (le_trans (not_over p active used k (omega (arith, h.each k b))) (mul-le-mul_left (blocks_at active k) l)))
