-- Owners tested all at once: the unions of what is computed of each word tell whether every word is well formed.
use mathlib.Core.Path.{◌≡◌, refl, sym, ap, ◌∙◌}
use mathlib.Core.Bool.{Bool, true, false, ◌&&◌, ◌||◌}
use mathlib.Core.List.{[], ◌∷◌}
use Prim.Native.Nat.{ℕ, ◌+◌, ◌-◌, ◌*◌, ◌/◌, ◌%◌, ◌^◌, ◌≤◌, ◌<◌}
use native.Mathlib.Omega.{arith}
use lib.Bits.{bit_and, and_mask}
use lib.Dec.{T, ltb, eqb, eqb→eq, ltb→lt, lt→ltb, lit≤}
use lib.Pow.{shr-shr, shl-shr}
use Rattle.fields.specs.Layout.{get}
use Rattle.fields.specs.Registers as reg
use Rattle.fields.proofs.Laws.{pack_unpack}
use Rattle.tables.specs.Below.{all_below}
use Rattle.tables.specs.View.{union_below}
use Rattle.tables.proofs.Tests.{cases, and_l, and_r, and_in, or_else, or_l, or_r, same_test, eqb_in, neqb}
use Rattle.tables.proofs.Laws.{all_at, all_in, all_same}
use Rattle.tables.proofs.Union.{union_mod, union_shr, none_in_union}
use Rattle.units.specs.Owners.{owner_word, owner_ok}
use Rattle.unit_tables.specs.View.{rcid_at_plus, mcid_plus, mark_plus, Limits}

-- ---- unions

-- a field of a union is 0 exactly where that of each word is
field_none : (p k n : ℕ) (f : ℕ → ℕ) → eqb (union_below n f / 2 ^ p % 2 ^ k) 0 ≡ all_below n (λ i. eqb (f i / 2 ^ p % 2 ^ k) 0)
field_none p k n f =
    ap (λ (x : ℕ). eqb x 0) (ap (λ (x : ℕ). x % 2 ^ k) (union_shr p n f) ∙ union_mod k n (λ i. f i / 2 ^ p))
    ∙ none_in_union n (λ i. f i / 2 ^ p % 2 ^ k) (λ i. eqb (f i / 2 ^ p % 2 ^ k) 0) (λ i l. refl)

high_none : (p n : ℕ) (f : ℕ → ℕ) → eqb (union_below n f / 2 ^ p) 0 ≡ all_below n (λ i. eqb (f i / 2 ^ p) 0)
high_none p n f =
    ap (λ (x : ℕ). eqb x 0) (union_shr p n f) ∙ none_in_union n (λ i. f i / 2 ^ p) (λ i. eqb (f i / 2 ^ p) 0) (λ i l. refl)

all_and : (n : ℕ) (p q : ℕ → Bool) → (all_below n p && all_below n q) ≡ all_below n (λ i. p i && q i)
all_and n p q =
    let both : ℕ → Bool = λ i. p i && q i in
    same_test (all_below n p && all_below n q) (all_below n both)
    (λ t. all_in n both (λ i l. and_in (p i) (q i) (all_at n p (and_l (all_below n p) (all_below n q) t) i l) (all_at n q (and_r (all_below n p) (all_below n q) t) i l)))
    (λ t. and_in (all_below n p) (all_below n q) (all_in n p (λ i l. and_l (p i) (q i) (all_at n both t i l))) (all_in n q (λ i l. and_r (p i) (q i) (all_at n both t i l))))

-- ---- one word

-- free, or a word that a fill stores: the ranges of a word that is 0 hold too
regroup : (rcid at mcid d e zero word : Bool) → (d && e) ≡ (zero || word) → (T zero → T (rcid && mcid && at))
    → (rcid && at && mcid && d && e) ≡ (zero || (word && rcid && mcid && at))
regroup true true true d e z true q f = q
regroup true true true d e z false q f = q
regroup false b c d e true w q f = absurd (f tt)
regroup true false true d e true w q f = absurd (f tt)
regroup true true false d e true w q f = absurd (f tt)
regroup true false false d e true w q f = absurd (f tt)
regroup false b c d e false true q f = refl
regroup false b c d e false false q f = refl
regroup true false true d e false true q f = refl
regroup true false false d e false true q f = refl
regroup true false c d e false false q f = refl
regroup true true false d e false true q f = refl
regroup true true false d e false false q f = refl

scaled : (y : ℕ) → y * 256 / 65536 ≡ y / 256
scaled y = sym (shr-shr (y * 256) 8 8) ∙ ap (λ (x : ℕ). x / 256) (shl-shr y 8)

-- what lacks of the RCIDs and ATs, and of the MCIDs, to the end of their fields
abbrev pub rcid_at_lack : ℕ → ℕ → ℕ
rcid_at_lack nr na = 256 - nr + (8 - na) * 65536

abbrev pub mcid_lack : ℕ → ℕ
mcid_lack nm = (256 - nm) * 256

-- below the mark, only 0 does not carry
below_mark : (o m : ℕ) → o < 524288 → m ≡ (o % 1048576 + 524288) % 1048576 + 524287 → m / 1048576 % 2 ≡ 0 → o ≡ 0
below_mark o m l e z = let k : m ≡ o + 1048575 = omega arith in omega (arith, k, l, z)

-- from it on, no word of 20 bits does
above_mark : (o m : ℕ) → 524288 ≤ o → o < 1048576 → m ≡ (o % 1048576 + 524288) % 1048576 + 524287 → m / 1048576 % 2 ≡ 0
above_mark o m l b e = let k : m + 1 ≡ o = omega arith in omega (arith, k, b)

module _ (nr nm na : ℕ) (h : Limits nr nm na) (o : ℕ) where
  rcid_at_is : bit_and o 0x700ff ≡ o / 65536 % 8 * 65536 + o % 256
  rcid_at_is = sym (pack_unpack (reg.owner_at ∷ reg.owner_rcid ∷ []) 19 o (lit≤ tt, (lit≤ tt, tt))) ∙ omega arith

  mcid_is : bit_and o 0xff00 ≡ o / 256 % 256 * 256
  mcid_is = sym (pack_unpack (reg.owner_mcid ∷ []) 16 o (lit≤ tt, tt)) ∙ omega arith

  rcid_test : eqb (rcid_at_plus (rcid_at_lack nr na) o / 256 % 2) 0 ≡ ltb (get reg.owner_rcid o) nr
  unfolding rcid_at_plus
  rcid_test =
      let x = rcid_at_plus (rcid_at_lack nr na) o / 256 % 2 in
      same_test (eqb x 0) (ltb (get reg.owner_rcid o) nr)
      (λ t. lt→ltb (get reg.owner_rcid o) nr (omega (arith, rcid_at_is, eqb→eq x 0 t)))
      (λ t. eqb_in x 0 (omega (arith, rcid_at_is, ltb→lt (get reg.owner_rcid o) nr t)))

  at_test : eqb (rcid_at_plus (rcid_at_lack nr na) o / 524288 % 2) 0 ≡ ltb (get reg.owner_at o) na
  unfolding rcid_at_plus
  at_test =
      let x = rcid_at_plus (rcid_at_lack nr na) o / 524288 % 2 in
      same_test (eqb x 0) (ltb (get reg.owner_at o) na)
      (λ t. lt→ltb (get reg.owner_at o) na (omega (arith, rcid_at_is, eqb→eq x 0 t)))
      (λ t. eqb_in x 0 (omega (arith, rcid_at_is, ltb→lt (get reg.owner_at o) na t)))

  mcid_sum : mcid_plus (mcid_lack nm) o / 65536 ≡ (get reg.owner_mcid o + (256 - nm)) / 256
  unfolding mcid_plus
  mcid_sum = ap (λ (x : ℕ). x / 65536) (by_256 (get reg.owner_mcid o) (256 - nm) mcid_is) ∙ scaled (get reg.owner_mcid o + (256 - nm))
    where
      by_256 : (x y : ℕ) → bit_and o 0xff00 ≡ x * 256 → bit_and o 0xff00 + y * 256 ≡ (x + y) * 256
      by_256 x y e = omega arith

  mcid_test : eqb (mcid_plus (mcid_lack nm) o / 65536 % 2) 0 ≡ ltb (get reg.owner_mcid o) nm
  mcid_test =
      let x = (get reg.owner_mcid o + (256 - nm)) / 256 % 2 in
      rw mcid_sum
      (same_test (eqb x 0) (ltb (get reg.owner_mcid o) nm) (λ t. lt→ltb (get reg.owner_mcid o) nm (omega (arith, eqb→eq x 0 t)))
      (λ t. eqb_in x 0 (omega (arith, ltb→lt (get reg.owner_mcid o) nm t))))

  mark_is : mark_plus o ≡ (o % 1048576 + 524288) % 1048576 + 524287
  unfolding mark_plus
  mark_is = ap (λ (x : ℕ). bit_and (x + 524288) 1048575 + 524287) (and_mask o 20) ∙ ap (λ (x : ℕ). x + 524287) (and_mask (o % 1048576 + 524288) 20)

  -- a word is 0, or it has the mark of an owner and nothing above it
  owned_test : (eqb (mark_plus o / 1048576 % 2) 0 && eqb (o / 1048576) 0) ≡ (eqb o 0 || eqb o (owner_word (get reg.owner_rcid o) (get reg.owner_mcid o) (get reg.owner_at o)))
  unfolding owner_word
  owned_test =
      let w = owner_word (get reg.owner_rcid o) (get reg.owner_mcid o) (get reg.owner_at o) in
      let u = mark_plus o / 1048576 % 2 in
      same_test (eqb u 0 && eqb (o / 1048576) 0) (eqb o 0 || eqb o w)
      (λ t. let top = eqb→eq (o / 1048576) 0 (and_r (eqb u 0) (eqb (o / 1048576) 0) t) in
      let e = eqb→eq u 0 (and_l (eqb u 0) (eqb (o / 1048576) 0) t) in
      cases (λ b. T (eqb o 0 || eqb o w)) (eqb (o / 524288) 0)
      (λ y. or_l (eqb o 0) (eqb o w) (eqb_in o 0 (below_mark o (mark_plus o) (omega (arith, eqb→eq (o / 524288) 0 y)) mark_is e)))
      (λ n. or_r (eqb o 0) (eqb o w) (eqb_in o w (omega (arith, neqb (o / 524288) 0 n)))))
      (λ t. or_else (eqb o 0) (eqb o w) t
      (λ z. let e = eqb→eq o 0 z in and_in (eqb u 0) (eqb (o / 1048576) 0) (eqb_in u 0 (omega (arith, mark_is))) (eqb_in (o / 1048576) 0 (omega arith)))
      (λ z. let e = eqb→eq o w z in
      and_in (eqb u 0) (eqb (o / 1048576) 0) (eqb_in u 0 (above_mark o (mark_plus o) (omega arith) (omega arith) mark_is)) (eqb_in (o / 1048576) 0 (omega arith))))

  zero_fields : T (eqb o 0) → T (ltb (get reg.owner_rcid o) nr && ltb (get reg.owner_mcid o) nm && ltb (get reg.owner_at o) na)
  zero_fields z =
      let e = eqb→eq o 0 z in
      let a = ltb (get reg.owner_rcid o) nr in
      let b = ltb (get reg.owner_mcid o) nm in
      and_in (a && b) (ltb (get reg.owner_at o) na)
      (and_in a b (lt→ltb (get reg.owner_rcid o) nr (omega (arith, h.nr_low))) (lt→ltb (get reg.owner_mcid o) nm (omega (arith, h.nm_low))))
      (lt→ltb (get reg.owner_at o) na (omega (arith, h.na_low)))

  -- the tests in the order of the code
  word_test : (eqb (rcid_at_plus (rcid_at_lack nr na) o / 256 % 2) 0 && eqb (rcid_at_plus (rcid_at_lack nr na) o / 524288 % 2) 0
      && eqb (mcid_plus (mcid_lack nm) o / 65536 % 2) 0 && eqb (mark_plus o / 1048576 % 2) 0 && eqb (o / 1048576) 0)
      ≡ owner_ok nr nm na o
  unfolding owner_ok
  word_test =
      rw (rcid_test, at_test, mcid_test)
      (regroup (ltb (get reg.owner_rcid o) nr) (ltb (get reg.owner_at o) na) (ltb (get reg.owner_mcid o) nm) (eqb (mark_plus o / 1048576 % 2) 0) (eqb (o / 1048576) 0)
      (eqb o 0) (eqb o (owner_word (get reg.owner_rcid o) (get reg.owner_mcid o) (get reg.owner_at o))) owned_test zero_fields)

-- ---- all words

module _ (nr nm na : ℕ) (h : Limits nr nm na) (n : ℕ) (f : ℕ → ℕ) where
  pub words_test : (a b c d : ℕ) → a ≡ union_below n (λ i. rcid_at_plus (rcid_at_lack nr na) (f i)) → b ≡ union_below n (λ i. mcid_plus (mcid_lack nm) (f i))
      → c ≡ union_below n (λ i. mark_plus (f i)) → d ≡ union_below n f
      → (eqb (a / 256 % 2) 0 && eqb (a / 524288 % 2) 0 && eqb (b / 65536 % 2) 0 && eqb (c / 1048576 % 2) 0 && eqb (d / 1048576) 0) ≡ all_below n (λ i. owner_ok nr nm na (f i))
  words_test a b c d ea eb ec ed =
      let x : ℕ → ℕ = λ i. rcid_at_plus (rcid_at_lack nr na) (f i) in
      let y : ℕ → ℕ = λ i. mcid_plus (mcid_lack nm) (f i) in
      let z : ℕ → ℕ = λ i. mark_plus (f i) in
      let p : ℕ → Bool = λ i. eqb (x i / 256 % 2) 0 in
      let q : ℕ → Bool = λ i. eqb (x i / 524288 % 2) 0 in
      let r : ℕ → Bool = λ i. eqb (y i / 65536 % 2) 0 in
      let s : ℕ → Bool = λ i. eqb (z i / 1048576 % 2) 0 in
      let t : ℕ → Bool = λ i. eqb (f i / 1048576) 0 in
      rw (ea, eb, ec, ed)
      (rw (field_none 8 1 n x, field_none 19 1 n x, field_none 16 1 n y, field_none 20 1 n z, high_none 20 n f)
      (ap (λ (v : Bool). v && all_below n r && all_below n s && all_below n t) (all_and n p q)
      ∙ ap (λ (v : Bool). v && all_below n s && all_below n t) (all_and n (λ i. p i && q i) r)
      ∙ ap (λ (v : Bool). v && all_below n t) (all_and n (λ i. p i && q i && r i) s)
      ∙ all_and n (λ i. p i && q i && r i && s i) t
      ∙ all_same n _ _ (λ i l. word_test nr nm na h (f i))))
