-- Words of owners: what a fill stores is well formed and reads back; a free unit is nobody's.
use mathlib.Core.Path.{◌≡◌, refl, sym, ap}
use mathlib.Core.Bool.{false, cond, ◌&&◌}
use mathlib.Core.List.{List, [], ◌∷◌}
use Prim.Native.Nat.{ℕ, zero, suc, ◌<◌}
use lib.Dec.{T, ltb, eqb, lt→ltb, lit<}
use lib.ListN.{length, get_or, set}
use Rattle.fields.specs.Layout.{get, unpack}
use Rattle.fields.specs.Registers as reg
use Rattle.fields.proofs.Laws.{unpack_pack}
use Rattle.fields.proofs.Registers.{owner_ordered}
use Rattle.tables.proofs.Tests.{cases, and_in, or_r, eqb_in}
use Rattle.units.specs.Owners.{owner_word, is_owned, of_mcid, of_rcid, owner_ok, flushed_owners}

-- ---- a free unit

pub free_mcid : (mcid : ℕ) → of_mcid mcid 0 ≡ false
unfolding of_mcid is_owned
free_mcid mcid = refl

pub free_ok : (nr nm na : ℕ) → T (owner_ok nr nm na 0)
unfolding owner_ok
free_ok nr nm na = tt

-- freed, it stays as it is
pub set_free : (owners : List ℕ) (unit : ℕ) → get_or owners unit 0 ≡ 0 → set owners unit 0 ≡ owners
set_free [] unit e = refl
set_free (o ∷ os) zero e = ap (λ (x : ℕ). x ∷ os) (sym e)
set_free (o ∷ os) (suc unit) e = ap (λ (t : List ℕ). o ∷ t) (set_free os unit e)

-- ---- the word that a fill stores

module _ (rcid mcid at : ℕ) (hr : rcid < 256) (hm : mcid < 256) (ha : at < 8) where
  word_fields : unpack reg.owner (owner_word rcid mcid at) ≡ 1 ∷ at ∷ mcid ∷ rcid ∷ []
  unfolding owner_word
  word_fields = unpack_pack reg.owner 20 (1 ∷ at ∷ mcid ∷ rcid ∷ []) owner_ordered (lit< tt, (ha, (hm, (hr, tt))))

  pub word_at : get reg.owner_at (owner_word rcid mcid at) ≡ at
  word_at = ap (λ (l : List ℕ). get_or l 1 0) word_fields

  pub word_mcid : get reg.owner_mcid (owner_word rcid mcid at) ≡ mcid
  word_mcid = ap (λ (l : List ℕ). get_or l 2 0) word_fields

  pub word_rcid : get reg.owner_rcid (owner_word rcid mcid at) ≡ rcid
  word_rcid = ap (λ (l : List ℕ). get_or l 3 0) word_fields

  -- it is of its MCID alone
  pub word_of : (k : ℕ) → of_mcid k (owner_word rcid mcid at) ≡ eqb mcid k
  unfolding of_mcid is_owned
  word_of k = rw (ap (λ (l : List ℕ). get_or l 0 0) word_fields, word_mcid) refl

  pub word_ok : (nr nm na : ℕ) → rcid < nr → mcid < nm → at < na → T (owner_ok nr nm na (owner_word rcid mcid at))
  unfolding owner_ok
  word_ok nr nm na lr lm la =
      let o = owner_word rcid mcid at in
      let own = eqb o (owner_word (get reg.owner_rcid o) (get reg.owner_mcid o) (get reg.owner_at o)) in
      let x = ltb (get reg.owner_rcid o) nr in
      let y = ltb (get reg.owner_mcid o) nm in
      let z = ltb (get reg.owner_at o) na in
      or_r (eqb o 0) (own && x && y && z)
      (and_in (own && x && y) z
      (and_in (own && x) y
      (and_in own x (eqb_in o _ (rw (word_rcid, word_mcid, word_at) refl)) (lt→ltb (get reg.owner_rcid o) nr (rw word_rcid lr)))
      (lt→ltb (get reg.owner_mcid o) nm (rw word_mcid lm)))
      (lt→ltb (get reg.owner_at o) na (rw word_at la)))

-- ---- owners after a flush

pub flushed_long : (rcid : ℕ) (owners : List ℕ) → length (flushed_owners rcid owners) ≡ length owners
unfolding flushed_owners
flushed_long rcid [] = refl
flushed_long rcid (o ∷ os) = ap suc (flushed_long rcid os)

-- what holds of every owner, and of a free unit, holds after it
pub flushed_every : (P : ℕ → Type 0) → P 0 → (rcid : ℕ) (owners : List ℕ) → ((i : ℕ) → P (get_or owners i 0)) → (i : ℕ) → P (get_or (flushed_owners rcid owners) i 0)
unfolding flushed_owners
flushed_every P z rcid [] h i = h i
flushed_every P z rcid (o ∷ os) h zero = cases (λ b. P (cond b 0 o)) (of_rcid rcid o) (λ y. z) (λ n. h 0)
flushed_every P z rcid (o ∷ os) h (suc i) = flushed_every P z rcid os (λ j. h (suc j)) i
