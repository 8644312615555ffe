-- What stands in a table after an accepted setting: its word, and a holder's Mweight at all holders of its RCID.
use mathlib.Core.Path.{◌≡◌, refl, sym, ap, ◌∙◌}
use mathlib.Core.Bool.{not, ◌&&◌}
use mathlib.Core.List.{List, map}
use Prim.Native.Nat.{ℕ, ◌*◌, ◌≤◌, ◌<◌}
use lib.Dec.{T, eqb, eqb→eq}
use lib.ListN.{length, get_or, set, length-set, length-map, get_or-map}
use lib.Seq.{get_or-set_same, get_or-set_other}
use Rattle.tables.specs.Below.{sum_of}
use Rattle.tables.specs.Parts.{row}
use Rattle.tables.proofs.Tests.{cases, and_l, and_r, nand_r, not_both, not_in, eqb_in, neqb, cond_yes, cond_no}
use Rattle.tables.proofs.Laws.{sum_of_map}
use Rattle.tables.proofs.Parts.{row_inside, part_at, part_length, part_set, sum_of_part}
use Rattle.access.specs.Pairs.{pair, word_at, Setting, with_setting}
use Rattle.access.proofs.Pairs.{pair_at, pair_rcid, word_set_same, word_set_other, row_long, row_own, row_other}
use Rattle.fields.specs.Layout.{without}
use Rattle.fields.specs.Registers.{mweight}
use Rattle.bandwidth_model.specs.Rules.{Setup, pairs, weight_of, shared_at_of, stored_form, is_holder, reserved, total, with_weight, settled_row, settled}
use Rattle.bandwidth_model.proofs.Words.{weight_lt, weight_0, holder_shared, not_holder_0, holder_in, not_holder, with_other, with_fields, with_stored, with_reserved, with_own, with_without}
use Rattle.bandwidth_model.proofs.Settings.{View, unset, holds, follows, Viewed, OneWeight, TableFacts, place_inside, word_stored}

-- ---- the words of an RCID

module _ (words : List ℕ) (at word : ℕ) where
  row_yes : T (is_holder word) → settled_row words at word ≡ map (with_weight (weight_of word)) (set words at word)
  unfolding settled_row
  row_yes t = cond_yes (is_holder word) _ _ t

  row_no : T (not (is_holder word)) → settled_row words at word ≡ set words at word
  unfolding settled_row
  row_no t = cond_no (is_holder word) _ _ t

  pub settled_length : length (settled_row words at word) ≡ length words
  settled_length =
      cases (λ b. length (settled_row words at word) ≡ length words) (is_holder word)
      (λ t. ap length (row_yes t) ∙ length-map (set words at word) _ ∙ length-set words at word) (λ t. ap length (row_no t) ∙ length-set words at word)

  -- the Mweight of a holder at each word
  entry_yes : T (is_holder word) → (a : ℕ) → get_or (settled_row words at word) a 0 ≡ with_weight (weight_of word) (get_or (set words at word) a 0)
  entry_yes t a =
      let f = with_weight (weight_of word) in
      ap (λ (l : List ℕ). get_or l a 0) (row_yes t) ∙ ap (get_or (map f (set words at word)) a) (sym (weight_0 (weight_of word))) ∙ get_or-map f (set words at word) a 0

  settled_sum : sum_of reserved (settled_row words at word) ≡ sum_of reserved (set words at word)
  settled_sum =
      cases (λ b. sum_of reserved (settled_row words at word) ≡ sum_of reserved (set words at word)) (is_holder word)
      (λ t. ap (sum_of reserved) (row_yes t) ∙ sum_of_map reserved _ (set words at word) (λ w. with_reserved (weight_of word) w (weight_lt word))) (λ t. ap (sum_of reserved) (row_no t))

-- ---- the words of the table

-- the word w is v, or v with another Mweight
data Carried (v w : ℕ) : Type 0 where
  same : w ≡ v → Carried v w
  took : (weight : ℕ) → weight < 256 → w ≡ with_weight weight v → Carried v w

module _ (su : Setup) (table : List ℕ) (long : length table ≡ pairs su) (p : Setting ℕ) (hr : p.rcid < su.nr) (ha : p.at < su.na) where
  abbrev own : List ℕ
  own = row su.na table p.rcid

  abbrev new : List ℕ
  new = settled_row own p.at p.value

  own_length : length own ≡ su.na
  unfolding pairs
  own_length = part_length table (p.rcid * su.na) su.na (rw long (row_inside su.nr su.na p.rcid hr))

  new_length : length new ≡ su.na
  new_length = settled_length own p.at p.value ∙ own_length

  own_word : (a : ℕ) → a < su.na → get_or own a 0 ≡ word_at su.na table p.rcid a
  unfolding word_at pair
  own_word a la = part_at table (p.rcid * su.na) su.na a la

  pub settled_long : length (settled su table p) ≡ length table
  unfolding settled pairs
  settled_long = row_long su.nr su.na table p.rcid new long hr new_length

  settled_entry : (a : ℕ) → a < su.na → word_at su.na (settled su table p) p.rcid a ≡ get_or (settled_row own p.at p.value) a 0
  unfolding settled pairs
  settled_entry a la = row_own su.nr su.na table p.rcid new long hr new_length a la

  -- another RCID's stay
  settled_apart : (r a : ℕ) → a < su.na → (r ≡ p.rcid → ⊥) → word_at su.na (settled su table p) r a ≡ word_at su.na table r a
  unfolding settled pairs
  settled_apart r a la d = row_other su.nr su.na table p.rcid new long hr new_length r a la d

  placed_own : get_or (set own p.at p.value) p.at 0 ≡ p.value
  placed_own = get_or-set_same own p.at p.value 0 (rw own_length ha)

  placed_other : (a : ℕ) → a < su.na → (a ≡ p.at → ⊥) → get_or (set own p.at p.value) a 0 ≡ word_at su.na table p.rcid a
  placed_other a la d = get_or-set_other own p.at a p.value 0 d ∙ own_word a la

  -- the word that was set
  pub settled_own : p.value ≡ stored_form p.value → word_at su.na (settled su table p) p.rcid p.at ≡ p.value
  settled_own e =
      settled_entry p.at ha
      ∙ cases (λ b. get_or (settled_row own p.at p.value) p.at 0 ≡ p.value) (is_holder p.value)
      (λ t. entry_yes own p.at p.value t p.at ∙ ap (with_weight (weight_of p.value)) placed_own ∙ with_own p.value e)
      (λ t. ap (λ (l : List ℕ). get_or l p.at 0) (row_no own p.at p.value t) ∙ placed_own)

  -- a holder was set: another AT of its RCID has its Mweight
  pub settled_row_lem : T (is_holder p.value) → (a : ℕ) → a < su.na → (a ≡ p.at → ⊥)
      → word_at su.na (settled su table p) p.rcid a ≡ with_weight (weight_of p.value) (word_at su.na table p.rcid a)
  settled_row_lem t a la d = settled_entry a la ∙ entry_yes own p.at p.value t a ∙ ap (with_weight (weight_of p.value)) (placed_other a la d)

  -- else it is as it was
  pub settled_same : (r a : ℕ) → a < su.na → (r ≡ p.rcid → a ≡ p.at → ⊥) → (T (is_holder p.value) → r ≡ p.rcid → ⊥)
      → word_at su.na (settled su table p) r a ≡ word_at su.na table r a
  settled_same r a la d n =
      cases (λ b. word_at su.na (settled su table p) r a ≡ word_at su.na table r a) (eqb r p.rcid)
      (λ e. let same = eqb→eq r p.rcid e in
      rw same (settled_entry a la ∙ ap (λ (l : List ℕ). get_or l a 0) (row_no own p.at p.value (not_in (is_holder p.value) (λ t. n t same))) ∙ placed_other a la (d same)))
      (λ e. settled_apart r a la (neqb r p.rcid e))

  -- so any other pair's word stays or takes the Mweight
  settled_carried : (r a : ℕ) → a < su.na → (r ≡ p.rcid → a ≡ p.at → ⊥) → Carried (word_at su.na table r a) (word_at su.na (settled su table p) r a)
  settled_carried r a la d =
      let here = eqb r p.rcid in
      let holder = is_holder p.value in
      cases (λ b. Carried (word_at su.na table r a) (word_at su.na (settled su table p) r a)) (here && holder)
      (λ e. let er = eqb→eq r p.rcid (and_l here holder e) in
      took (weight_of p.value) (weight_lt p.value) (rw er (settled_row_lem (and_r here holder e) a la (d er))))
      (λ e. same (settled_same r a la d (λ h q. not_both holder h (nand_r here holder e (eqb_in r p.rcid q)))))

  settled_total : total (settled su table p) ≡ total (with_setting su.na table p)
  unfolding settled total pair
  settled_total =
      sum_of_part reserved table (p.rcid * su.na) su.na _ _ (settled_sum own p.at p.value) ∙ ap (sum_of reserved) (part_set table (p.rcid * su.na) su.na p.at p.value ha)

-- ---- what they say

holder_carried : {su : Setup} {old : List ℕ} {r a v w : ℕ} → Carried v w → View su old r a v → T (is_holder v) → T (is_holder w)
holder_carried (same e) x t = rw e t
holder_carried (took k h e) (unset z) t = absurd (not_holder_0 (rw z at t))
holder_carried {v = v} (took k h e) (holds s u b) t =
    let f = with_fields k v h t in
    rw e (holder_in (with_weight k v) f.shared_is (rw f.blocks_is b))
holder_carried {v = v} (took k h e) (follows s u o l m) t = absurd (u (holder_shared v t))

module _ {su : Setup} {old new : List ℕ} {r : ℕ} (keeps : (b : ℕ) → b < su.na → T (is_holder (word_at su.na old r b)) → T (is_holder (word_at su.na new r b))) where
  view_same : {a v : ℕ} → View su old r a v → View su new r a v
  view_same (unset z) = unset z
  view_same (holds s u b) = holds s u b
  view_same {v = v} (follows s u o l m) = follows s u o l (keeps (shared_at_of v) l m)

  view_carried : {a v w : ℕ} → Carried v w → View su old r a v → View su new r a w
  view_carried (same e) x = rw e (view_same x)
  view_carried (took k h e) (unset z) = unset (e ∙ ap (with_weight k) z ∙ weight_0 k)
  view_carried {v = v} (took k h e) (holds s u b) =
      let t = holder_in v u b in
      let f = with_fields k v h t in
      rw e (holds (with_stored k v h t) f.shared_is (rw f.blocks_is b))
  view_carried {v = v} (took k h e) (follows s u o l m) = rw (e, with_other k v (not_holder v u)) (view_same (follows s u o l m))

module _ (su : Setup) (table : List ℕ) (t : TableFacts su table) (p : Setting ℕ) (hr : p.rcid < su.nr) (ha : p.at < su.na) (stored : p.value ≡ stored_form p.value)
    (bounded : total (with_setting su.na table p) ≤ su.mrbwb) (placed : Viewed su (with_setting su.na table p)) where
  abbrev after : List ℕ
  after = settled su table p

  carried : (r a : ℕ) → r < su.nr → a < su.na → Carried (word_at su.na (with_setting su.na table p) r a) (word_at su.na after r a)
  carried r a lr la =
      cases (λ b. Carried (word_at su.na (with_setting su.na table p) r a) (word_at su.na after r a)) (eqb (pair su.na r a) (pair su.na p.rcid p.at))
      (λ e. let i = eqb→eq (pair su.na r a) (pair su.na p.rcid p.at) e in
      let er = pair_rcid su.na r a p.rcid p.at la ha i in
      let ea = pair_at su.na r a p.rcid p.at la ha i in
      rw (er, ea) (same (settled_own su table t.long p hr ha stored ∙ sym (word_set_same su.na table p.rcid p.at p.value (place_inside su table t.long p.rcid p.at hr ha)))))
      (λ e. let d = neqb (pair su.na r a) (pair su.na p.rcid p.at) e in
      rw (word_set_other su.na table _ p.value r a d) (settled_carried su table t.long p hr ha r a la (λ q s. d (cc))))

  words_after : Viewed su after
  words_after r a lr la =
      view_carried (λ b lb h. holder_carried (carried r b lr lb) (placed r b lr lb) h) (carried r a lr la) (placed r a lr la)

  -- a holder was set: every holder of its RCID has its Mweight
  row_weight : T (is_holder p.value) → (a : ℕ) → a < su.na → T (is_holder (word_at su.na after p.rcid a)) → weight_of (word_at su.na after p.rcid a) ≡ weight_of p.value
  row_weight h a la k =
      cases (λ b. weight_of (word_at su.na after p.rcid a) ≡ weight_of p.value) (eqb a p.at)
      (λ e. rw (eqb→eq a p.at e, settled_own su table t.long p hr ha stored) refl)
      (λ e. let w = word_at su.na table p.rcid a in
      let s = settled_row_lem su table t.long p hr ha h a la (neqb a p.at e) in
      cases (λ b. weight_of (word_at su.na after p.rcid a) ≡ weight_of p.value) (is_holder w)
      (λ y. ap weight_of s ∙ (with_fields (weight_of p.value) w (weight_lt p.value) y).weight_is)
      (λ n. absurd (not_both (is_holder w) (rw (s, with_other (weight_of p.value) w n) at k) n)))

  -- none was set: a holder of its RCID is an old one
  row_same : T (not (is_holder p.value)) → (a : ℕ) → a < su.na → T (is_holder (word_at su.na after p.rcid a)) → word_at su.na after p.rcid a ≡ word_at su.na table p.rcid a
  row_same n a la k =
      settled_same su table t.long p hr ha p.rcid a la
      (λ q e. not_both (is_holder p.value) (rw (e, settled_own su table t.long p hr ha stored) at k) n) (λ h q. not_both (is_holder p.value) h n)

  weights_after : (r a b : ℕ) → r < su.nr → a < su.na → b < su.na → OneWeight su after r a b
  weights_after r a b lr la lb =
      cases (λ x. OneWeight su after r a b) (eqb r p.rcid)
      (λ e. rw (eqb→eq r p.rcid e)
      (cases (λ x. OneWeight su after p.rcid a b) (is_holder p.value)
      (λ y h k. row_weight y a la h ∙ sym (row_weight y b lb k))
      (λ n h k. let ea = row_same n a la h in
      let eb = row_same n b lb k in
      ap weight_of ea ∙ t.weights p.rcid a b hr la lb (rw ea at h) (rw eb at k) ∙ sym (ap weight_of eb))))
      (λ e. let d = neqb r p.rcid e in
      rw (settled_apart su table t.long p hr ha r a la d, settled_apart su table t.long p hr ha r b lb d) (t.weights r a b lr la lb))

  pub settled_facts : TableFacts su after
  settled_facts = record {
    long = settled_long su table t.long p hr ha ∙ t.long;
    bounded = rw (settled_total su table t.long p hr ha) bounded;
    words = words_after;
    weights = weights_after;
  }

without_carried : {v w : ℕ} → v ≡ stored_form v → Carried v w → without mweight w ≡ without mweight v
without_carried s (same e) = ap (without mweight) e
without_carried {v} s (took k h e) = ap (without mweight) e ∙ with_without k v h s

-- all but its Mweight stays at any other pair
pub settled_without : (su : Setup) (table : List ℕ) → TableFacts su table → (p : Setting ℕ) → p.rcid < su.nr → p.at < su.na
    → (r a : ℕ) → r < su.nr → a < su.na → (r ≡ p.rcid → a ≡ p.at → ⊥) → without mweight (word_at su.na (settled su table p) r a) ≡ without mweight (word_at su.na table r a)
settled_without su table t p hr ha r a lr la d = without_carried (word_stored (t.words r a lr la)) (settled_carried su table t.long p hr ha r a la d)
