-- A request by the words of its RCID is the model's on the whole tables: its holder, its grant, that it fits, and what is used then.
use mathlib.Core.Path.{◌≡◌, refl, ap, ◌∙◌}
use mathlib.Core.Bool.{Bool, cond}
use mathlib.Core.List.{List}
use Prim.Native.Nat.{ℕ, ◌+◌, ◌-◌, ◌*◌, ◌^◌, ◌≤◌, ◌<◌, min}
use native.Mathlib.Nat.{mul-le-mul, min-le_right}
use native.Mathlib.Omega.{arith}
use lib.Dec.{T, leb, eqb, leb→le}
use lib.ListN.{get_or}
use Rattle.tables.specs.Below.{all_below}
use Rattle.tables.specs.Parts.{part, with_part, RowAt}
use Rattle.tables.proofs.Tests.{cases, and_l, and_r}
use Rattle.tables.proofs.Laws.{all_at}
use Rattle.tables.proofs.Parts.{part_same}
use Rattle.access.specs.Pairs.{pair, word_at}
use Rattle.access.proofs.Pairs.{pair_inside}
use Rattle.bandwidth_model.specs.Rules.{Setup, pairs, weight_of, reserved, shared_at_of, is_holder, is_sharer, use_shared_of, total, Holder, nobody, held, holder_of, pool_of}
use Rattle.bandwidth_model.specs.View.{Ranges}
use Rattle.bandwidth_model.specs.Calls.{Grant}
use Rattle.bandwidth_model.specs.Model.{Usage, usage_ok, from_reservation, from_pool, grant_of, spend}
use Rattle.bandwidth_model.proofs.Words.{reserved_le, shared_0, sharer_shared}
use Rattle.bandwidth_model.proofs.Settings.{View, unset, holds, follows, TableFacts}
use Rattle.bandwidth_settings.proofs.Rows.{row_word, row_set}
use Rattle.bandwidth_grants.specs.View.{usage}
use Rattle.bandwidth_grants.specs.Grants.{holder_in, pool_in, grant_in, Fits, RowFits, RowGiven}
use Rattle.bandwidth_grants.proofs.Steps.{pick_le}

-- the holder in a row, and the same one in the table
pub data Led (na rcid : ℕ) : Holder → Holder → Type 0 where
  none : Led na rcid nobody nobody
  one : {s : ℕ} → s < na → Led na rcid (held s) (held (pair na rcid s))

-- a sharer shares an AT below NA
shared_low : {su : Setup} {table : List ℕ} {rcid at w : ℕ} → T (is_sharer w) → View su table rcid at w → shared_at_of w < su.na
shared_low {w = w} t (unset z) = absurd (sharer_shared w t (ap use_shared_of z ∙ shared_0))
shared_low {w = w} t (holds s u p) = absurd (sharer_shared w t u)
shared_low t (follows s u o k h) = k

-- ---- the holder, and what is used then

module _ (su : Setup) (u : Usage) (t : TableFacts su u.active) {rcid from to : ℕ} (w : RowAt su.nr su.na rcid from to) (hr : rcid < su.nr) (at : ℕ) (ha : at < su.na) where
  abbrev words : List ℕ
  words = part from (to - from) u.active

  abbrev used : List ℕ
  used = part from (to - from) u.used

  abbrev holder : Holder
  holder = holder_of su u.active rcid at

  pub leads : Led su.na rcid (holder_in words at) holder
  unfolding holder_in holder_of
  leads =
      let x = word_at su.na u.active rcid at in
      let own = held (pair su.na rcid at) in
      let other = held (pair su.na rcid (shared_at_of x)) in
      rw (row_word w hr u.active at ha)
      (cases (λ b. Led su.na rcid (cond b (held at) (cond (is_sharer x) (held (shared_at_of x)) nobody)) (cond b own (cond (is_sharer x) other nobody))) (is_holder x) (λ h. one ha)
      (λ n. cases (λ b. Led su.na rcid (cond b (held (shared_at_of x)) nobody) (cond b other nobody)) (is_sharer x) (λ s. one (shared_low s (t.words rcid at hr ha))) (λ s. none)))

  spending : {h g : Holder} → Led su.na rcid h g → (x : Grant) (left : List ℕ) (gave : ℕ) → usage words left gave ≡ spend (usage words used u.pool) h x
      → usage u.active (with_part from (to - from) u.used left) gave ≡ spend u g x
  unfolding spend word_at
  spending none x left gave e =
      rw (ap (λ (v : Usage). v.used) e, ap (λ (v : Usage). v.pool) e, part_same u.used from (to - from)) refl
  spending (one {s} l) x left gave e =
      rw (ap (λ (v : Usage). v.used) e, ap (λ (v : Usage). v.pool) e, row_word w hr u.used s l, row_set w hr u.used s l (get_or u.used (pair su.na rcid s) 0 + x.reserved)) refl

  -- what the row's holder spends is spent in the table
  pub row_spends : (x : Grant) (left : List ℕ) (gave : ℕ) → usage words left gave ≡ spend (usage words used u.pool) (holder_in words at) x
      → usage u.active (with_part from (to - from) u.used left) gave ≡ spend u holder x
  row_spends x left gave e = spending leads x left gave e

  -- ---- a request

  module _ (r : Ranges su) (k : T (usage_ok su u)) (bytes : ℕ) where
    grants : {h g : Holder} → Led su.na rcid h g → grant_in su (total u.active) words used u.pool h bytes ≡ grant_of su u g bytes
    unfolding grant_in pool_in grant_of from_reservation from_pool pool_of word_at
    grants none = refl
    grants (one {s} l) = rw (row_word w hr u.active s l, row_word w hr u.used s l) refl

    used_ok : ℕ → Bool
    used_ok i = leb (get_or u.used i 0) (reserved (get_or u.active i 0) * su.q)

    reservation_room : (i : ℕ) → i < pairs su → get_or u.used i 0 + from_reservation su u i bytes < 2 ^ 32
    unfolding usage_ok from_reservation used_ok
    reservation_room i l =
        let all = and_l (all_below (pairs su) used_ok) (leb u.pool (pool_of su u.active)) k in
        let used = get_or u.used i 0 in
        let size = reserved (get_or u.active i 0) * su.q in
        omega (arith, leb→le used size (all_at (pairs su) used_ok all i l), min-le_right bytes (size - used), mul-le-mul (reserved_le (get_or u.active i 0)) r.q_high)

    pool_room : (i rest : ℕ) → u.pool + from_pool su u i rest < 2 ^ 64
    unfolding usage_ok from_pool pool_of used_ok
    pool_room i rest =
        let size = (su.nbwblks - total u.active) * su.q in
        let blocks : su.nbwblks - total u.active ≤ 65535 = omega arith in
        omega (
          arith,
          leb→le u.pool size (and_r (all_below (pairs su) used_ok) (leb u.pool size) k),
          min-le_right rest (size - u.pool),
          pick_le (eqb (weight_of (get_or u.active i 0)) 0) 0 (min rest (size - u.pool)),
          mul-le-mul blocks r.q_high,
        )

    fitting : {h g : Holder} → Led su.na rcid h g → Fits used u.pool h (grant_of su u g bytes)
    unfolding Fits grant_of pairs word_at
    fitting none = tt
    fitting (one {s} l) =
        let i = pair su.na rcid s in
        (rw (row_word w hr u.used s l) (reservation_room i (pair_inside su.nr su.na rcid s hr l)), pool_room i (bytes - from_reservation su u i bytes))

    -- what the request is granted fits the row
    pub row_fits : RowFits su (total u.active) words used u.pool at bytes
    row_fits = record { ranges = r; fits = rw (grants leads) (fitting leads) }

    -- the row's request is the model's
    module _ {left : List ℕ} {x : Grant} {sum gave : ℕ} (g : RowGiven su (total u.active) words used u.pool at bytes left x sum gave) where
      pub row_granted : x ≡ grant_of su u holder bytes
      row_granted = g.grant_is ∙ grants leads

      pub row_spent : usage u.active (with_part from (to - from) u.used left) gave ≡ spend u holder (grant_of su u holder bytes)
      row_spent = row_spends _ left gave (g.spent ∙ ap (spend (usage words used u.pool) (holder_in words at)) (grants leads))
