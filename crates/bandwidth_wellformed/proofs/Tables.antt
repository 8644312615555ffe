-- What the passes over a settings table say of it, both ways.
use mathlib.Core.Path.{◌≡◌, refl, sym, ap, subst, ◌∙◌}
use mathlib.Core.Bool.{Bool, true, false, not, ◌&&◌}
use mathlib.Core.List.{List}
use Prim.Native.Nat.{ℕ, ◌+◌, ◌*◌, ◌/◌, ◌%◌, ◌<◌}
use native.Mathlib.Nat.{le_trans, le_of_eq}
use native.Mathlib.Omega.{arith}
use lib.Dec.{T, eqb, eqb→eq, leb, leb→le, le→leb}
use lib.ListN.{length, get_or}
use Rattle.std.specs.Bool.{then_some}
use Rattle.fields.specs.Registers as reg
use Rattle.tables.specs.Below.{sum_below, sum_of, all_below}
use Rattle.tables.specs.View.{union_below}
use Rattle.tables.proofs.Tests.{and_l, and_r, and_in, not_not, eqb_in, neqb, neqb_in, same_test}
use Rattle.tables.proofs.Laws.{sum_same, all_at, all_in, all_same}
use Rattle.access.specs.Pairs.{pair, word_at}
use Rattle.access.proofs.Pairs.{pair_inside, pair_of}
use Rattle.monitor.specs.Monitor.{counter_ok, setting_ok}
use Rattle.codes.specs.declared.Resource.TheVariants.{Bandwidth}
use Rattle.bandwidth_model.specs.Rules.{Setup, pairs, rbwb_of, weight_of, shared_at_of, use_shared_of, is_holder, reserved, total}
use Rattle.bandwidth_model.specs.Model.{table_ok}
use Rattle.bandwidth_model.specs.View.{Sized}
use Rattle.bandwidth_model.specs.Waiters.{waiter_ok}
use Rattle.bandwidth_model.proofs.Words.{shared_0, blocks_0, shared_1, not_0, stored_fields_1, holder_in, holder_shared, not_holder_0}
use Rattle.bandwidth_model.proofs.Settings.{View, unset, holds, follows, Viewed, OneWeight, TableFacts, table_ok_lem, table_facts}
use Rattle.bandwidth_wellformed.specs.Bits.{form_at, blocks_at, mark_at, sharing_bits, weight_bits, row_right, right_at, over_at}
use Rattle.bandwidth_wellformed.specs.Tables.{tables_ok, Totalled, TableSummed, SummedTables, TablesChecked}
use Rattle.bandwidth_wellformed.specs.declared.Totals.{Totals}
use Rattle.bandwidth_wellformed.specs.declared.settings.TableSums.{TableSums}
use Rattle.bandwidth_wellformed.specs.declared.settings.Sums.{Sums}
use Rattle.tables.proofs.Union.{union_zero, zero_union, none_bad}
use Rattle.bandwidth_wellformed.proofs.Forms as forms
use Rattle.bandwidth_wellformed.proofs.Forms.{Form, low_blocks, shares_top, formed, form_of, form_shares, form_reserved}
use Rattle.bandwidth_wellformed.proofs.Marks.{Led, row_held, held_row}
use Rattle.bandwidth_wellformed.proofs.Mweights.{row_one, one_row}

-- ---- one word

form_holder : {w : ℕ} → Form w → (rbwb_of w ≡ 0 → ⊥) → T (is_holder w)
form_holder (forms.unset e) d = absurd (d (ap rbwb_of e ∙ blocks_0))
form_holder {w} (forms.holder s u p) d = holder_in w u p
form_holder (forms.sharer s u n) d = absurd (d n)

-- without blocks there is no Mweight
form_weight : {w : ℕ} → Form w → rbwb_of w ≡ 0 → weight_of w ≡ 0
unfolding weight_of
form_weight (forms.unset e) z = ap weight_of e
form_weight (forms.holder s u p) z = absurd (omega arith)
form_weight {w} (forms.sharer s u n) z = ap weight_of s ∙ (stored_fields_1 w (not_0 w u)).weight_is

module _ {su : Setup} {t : List ℕ} {rcid at w : ℕ} where
  view_form : View su t rcid at w → Form w
  view_form (unset z) = forms.unset z
  view_form (holds s u p) = forms.holder s u p
  view_form (follows s d o k h) = forms.sharer s (shared_1 w d) (ap rbwb_of s ∙ (stored_fields_1 w d).blocks_is)

  holder_blocks : View su t rcid at w → T (is_holder w) → rbwb_of w ≡ 0 → ⊥
  holder_blocks (unset z) h e = not_holder_0 (rw z at h)
  holder_blocks (holds s u p) h e = omega arith
  holder_blocks (follows s d o k g) h e = d (holder_shared w h)

-- ---- a whole table

module _ (su : Setup) (t : List ℕ) (long : length t ≡ pairs su) where
  by_pair : ((rcid at : ℕ) → rcid < su.nr → at < su.na → Form (word_at su.na t rcid at)) → (i : ℕ) → i < pairs su → Form (get_or t i 0)
  unfolding pairs word_at
  by_pair f i l =
      let p = pair_of su.nr su.na i l in
      subst (λ (k : ℕ). Form (get_or t k 0)) (sym p.is) (f (i / su.na) (i % su.na) p.rcid_low p.at_low)

  words_form : TableFacts su t → (i : ℕ) → i < pairs su → Form (get_or t i 0)
  words_form f = by_pair (λ rcid at hr ha. view_form (f.words rcid at hr ha))

  -- in a well-formed table a word reserves its Rbwb
  pub blocks_reserved : T (table_ok su t) → (i : ℕ) → i < pairs su → reserved (get_or t i 0) ≡ rbwb_of (get_or t i 0)
  blocks_reserved k i l = form_reserved (get_or t i 0) (words_form (table_facts su t long k) i l) ∙ low_blocks (get_or t i 0)

  sums : ((i : ℕ) → i < pairs su → Form (get_or t i 0)) → sum_below (su.nr * su.na) (blocks_at t) ≡ total t
  unfolding pairs total sum_of blocks_at
  sums f =
      ap (λ (n : ℕ). sum_below n (blocks_at t)) (sym long)
      ∙ sum_same (length t) (blocks_at t) (λ i. reserved (get_or t i 0)) (λ i l. sym (form_reserved (get_or t i 0) (f i (le_trans l (le_of_eq long)))))

  -- Mweights, both ways
  agreed : Viewed su t → ((rcid : ℕ) → rcid < su.nr → weight_bits su.na t (rcid * su.na) ≡ 0)
      → (rcid a b : ℕ) → rcid < su.nr → a < su.na → b < su.na → OneWeight su t rcid a b
  unfolding word_at pair
  agreed v z rcid a b hr ha hb h k =
      let blocks : (a : ℕ) → a < su.na → T (is_holder (word_at su.na t rcid a)) → T (not (eqb (word_at su.na t rcid a % 65536) 0)) =
      λ a ha h. neqb_in (word_at su.na t rcid a % 65536) 0 (λ e. holder_blocks (v rcid a hr ha) h (sym (low_blocks (word_at su.na t rcid a)) ∙ e)) in
      row_one su.na t (rcid * su.na) (z rcid hr) a b ha hb (blocks a ha h) (blocks b hb k)

  no_weights : TableFacts su t → (rcid : ℕ) → rcid < su.nr → weight_bits su.na t (rcid * su.na) ≡ 0
  unfolding word_at pair
  no_weights f rcid hr =
      let word : ℕ → ℕ = word_at su.na t rcid in
      let holder : (a : ℕ) → a < su.na → T (not (eqb (word a % 65536) 0)) → T (is_holder (word a)) =
      λ a ha d. form_holder (view_form (f.words rcid a hr ha)) (λ e. neqb (word a % 65536) 0 d (low_blocks (word a) ∙ e)) in
      one_row su.na t (rcid * su.na)
      (λ a b ha hb e d. form_weight (view_form (f.words rcid a hr ha)) (sym (low_blocks (word a)) ∙ eqb→eq (word a % 65536) 0 (not_not (eqb (word a % 65536) 0) e)))
      (λ a b ha hb d e. f.weights rcid a b hr ha hb (holder a ha d) (holder b hb e))

  module _ (fit : (i : ℕ) → get_or t i 0 < 4294967296) where
    -- from the passes to the facts
    module _ (form : union_below (su.nr * su.na) (form_at t) ≡ 0) (rows : (rcid : ℕ) → rcid < su.nr → sharing_bits su.na t (rcid * su.na) ≡ 0) where
      module _ (rcid at : ℕ) (hr : rcid < su.nr) (ha : at < su.na) where
        led : Led su.na (word_at su.na t rcid) at
        unfolding word_at pair sharing_bits mark_at
        led = row_held su.na (word_at su.na t rcid) (λ a l. fit (rcid * su.na + a)) (rows rcid hr) at ha

        pair_form : Form (word_at su.na t rcid at)
        unfolding pairs word_at form_at
        pair_form =
            let i = pair su.na rcid at in
            formed (get_or t i 0) (fit i) (union_zero (su.nr * su.na) (form_at t) form i (pair_inside su.nr su.na rcid at hr ha)) (λ p. (led p).0)

      word : (i : ℕ) → i < pairs su → Form (get_or t i 0)
      word = by_pair pair_form

      view : Viewed su t
      view rcid at hr ha = by (pair_form rcid at hr ha)
        where
          w : ℕ
          w = word_at su.na t rcid at

          by : Form w → View su t rcid at w
          by (forms.unset z) = unset z
          by (forms.holder s u p) = holds s u p
          by (forms.sharer s u n) =
              let g = (led rcid at hr ha (shares_top w u)).1 in
              follows s (not_0 w u) (λ e. g.1 (ap (λ (a : ℕ). rbwb_of (word_at su.na t rcid a)) e ∙ n)) g.0
              (form_holder (pair_form rcid (shared_at_of w) hr g.0) g.1)

    -- from the facts to the passes
    no_form : TableFacts su t → union_below (su.nr * su.na) (form_at t) ≡ 0
    unfolding pairs form_at
    no_form f = zero_union (su.nr * su.na) (form_at t) (λ i l. form_of (get_or t i 0) (fit i) (words_form f i l))

    no_rows : TableFacts su t → (rcid : ℕ) → rcid < su.nr → sharing_bits su.na t (rcid * su.na) ≡ 0
    unfolding word_at pair sharing_bits mark_at
    no_rows f rcid hr = held_row su.na (word_at su.na t rcid) (λ a l. fit (rcid * su.na + a)) (λ at ha. leads rcid at hr (f.words rcid at hr ha))
      where
        leads : (rcid at : ℕ) → rcid < su.nr → View su t rcid at (word_at su.na t rcid at) → Led su.na (word_at su.na t rcid) at
        leads rcid at hr v p = by v
          where
            w : ℕ
            w = word_at su.na t rcid at

            u : use_shared_of w ≡ 1
            u = form_shares w (fit (rcid * su.na + at)) (view_form v) p

            by : View su t rcid at w → (use_shared_of w ≡ 1) × ((shared_at_of w < su.na) × (rbwb_of (word_at su.na t rcid (shared_at_of w)) ≡ 0 → ⊥))
            by (unset z) = absurd (not_0 w u (ap use_shared_of z ∙ shared_0))
            by (holds s v p) = absurd (not_0 w u v)
            by (follows s d o k h) = (u, (k, holder_blocks (f.words rcid (shared_at_of w) hr k) h))

    rows_right : TableFacts su t → T (all_below su.nr (right_at su.na t))
    unfolding right_at row_right
    rows_right f =
        all_in su.nr (right_at su.na t)
        (λ rcid hr. and_in (eqb (sharing_bits su.na t (rcid * su.na)) 0) _ (eqb_in _ 0 (no_rows f rcid hr)) (eqb_in _ 0 (no_weights f rcid hr)))

    module _ {s : TableSums} (l : TableSummed su.na t su.nr s) where
      abbrev passes : Bool
      passes = eqb s.form 0 && s.rows && leb s.blocks su.mrbwb

      there : T passes → T (table_ok su t)
      unfolding right_at row_right
      there k =
          let f : T (eqb s.form 0) = search (and_l, and_r) in
          let r : T s.rows = search (and_l, and_r) in
          let b : T (leb s.blocks su.mrbwb) = search (and_l, and_r) in
          let nf = sym l.form ∙ eqb→eq s.form 0 f in
          let row : (rcid : ℕ) → rcid < su.nr → T (right_at su.na t rcid) = all_at su.nr (right_at su.na t) (subst T l.rows r) in
          let nr : (rcid : ℕ) → rcid < su.nr → sharing_bits su.na t (rcid * su.na) ≡ 0 = λ rcid h. eqb→eq _ 0 (and_l (eqb (sharing_bits su.na t (rcid * su.na)) 0) _ (row rcid h)) in
          let nw : (rcid : ℕ) → rcid < su.nr → weight_bits su.na t (rcid * su.na) ≡ 0 = λ rcid h. eqb→eq _ 0 (and_r (eqb (sharing_bits su.na t (rcid * su.na)) 0) _ (row rcid h)) in
          table_ok_lem su t
          (record {
            long = long;
            bounded = le_trans (le_of_eq (sym (sums (word nf nr)) ∙ sym l.blocks)) (leb→le s.blocks su.mrbwb b);
            words = view nf nr;
            weights = agreed (view nf nr) nw;
          })

      blocks_total : T (table_ok su t) → s.blocks ≡ total t
      blocks_total k = l.blocks ∙ sums (words_form (table_facts su t long k))

      back : T (table_ok su t) → T passes
      back k =
          let f = table_facts su t long k in
          let a : T (eqb s.form 0) = eqb_in s.form 0 (l.form ∙ no_form f) in
          let b : T s.rows = subst T (sym l.rows) (rows_right f) in
          let d : T (leb s.blocks su.mrbwb) = le→leb s.blocks su.mrbwb (le_trans (le_of_eq (blocks_total k)) f.bounded) in
          search and_in

      pub table_test : {x : Bool} → x ≡ passes → (x ≡ table_ok su t) × (T x → s.blocks ≡ total t)
      table_test e =
          let k = e ∙ same_test passes (table_ok su t) there back in
          (k, λ h. blocks_total (subst T k h))

-- ---- used bytes

-- by Rbwb alone
pub used_test : (q n : ℕ) (active used : List ℕ)
    → eqb (union_below n (over_at q active used)) 0 ≡ all_below n (λ i. leb (get_or used i 0) (rbwb_of (get_or active i 0) * q))
unfolding over_at blocks_at
used_test q n active used =
    none_bad n 4294967294 (λ i. leb (get_or used i 0) (blocks_at active i * q))
    ∙ all_same n _ _ (λ i l. ap (λ (b : ℕ). leb (get_or used i 0) (b * q)) (low_blocks (get_or active i 0)))

-- ---- all tables

-- a part of a test that matters only where its first part holds
guarded : (s u v k e w : Bool) → (T s → u ≡ v) → (s && u && k && e && w) ≡ (s && v && k && e && w)
guarded true u v k e w h = rw (h tt)
guarded false u v k e w h = refl

module _ (su : Setup) (active configured used counters events waiters : List ℕ) (z : Sized su active configured used counters events waiters) where
  within : ℕ → Bool
  within i = leb (get_or used i 0) (reserved (get_or active i 0) * su.q)

  used_reserved : T (table_ok su active) → all_below (length used) (λ i. leb (get_or used i 0) (rbwb_of (get_or active i 0) * su.q)) ≡ all_below (pairs su) within
  unfolding within
  used_reserved k =
      ap (λ (n : ℕ). all_below n (λ i. leb (get_or used i 0) (rbwb_of (get_or active i 0) * su.q))) z.used_long
      ∙ all_same (pairs su) _ within
      (λ i l. ap (λ (b : ℕ). leb (get_or used i 0) (b * su.q)) (sym (blocks_reserved su active z.active_long k i l)))

  pub tables_test : {s u k e w : Bool} → s ≡ (table_ok su active && table_ok su configured)
      → u ≡ all_below (length used) (λ i. leb (get_or used i 0) (rbwb_of (get_or active i 0) * su.q))
      → k ≡ all_below (length counters) (λ i. counter_ok reg.bandwidth_counter reg.bandwidth_ctr su.w (get_or counters i 0))
      → e ≡ all_below (length events) (λ i. setting_ok su.na Bandwidth (get_or events i 0))
      → w ≡ all_below (length waiters) (λ i. waiter_ok su (get_or waiters i 0))
      → (s && u && k && e && w) ≡ tables_ok su active configured used counters events waiters
  unfolding tables_ok within
  tables_test {s} {u} {k} {e} {w} es eu ek ee ew =
      guarded s u (all_below (pairs su) within) k e w (λ t. eu ∙ used_reserved (and_l (table_ok su active) (table_ok su configured) (subst T es t)))
      ∙ rw (es, ek, ee, ew, z.counters_long, z.events_long, z.waiters_long)

-- ---- from the sums of all rows

-- both totals where what is found of the tables is true
totals_found : (b : Bool) (su : Setup) (active configured used counters events waiters : List ℕ) (x : Totals)
    → b ≡ tables_ok su active configured used counters events waiters → (T b → Totalled active configured x)
    → TablesChecked su active configured used counters events waiters (then_some b x)
totals_found true su active configured used counters events waiters x e f = (subst T e tt, f tt)
totals_found false su active configured used counters events waiters x e f = subst (λ (v : Bool). T (not v)) e tt

pub tables_by : (su : Setup) (active configured used counters events waiters : List ℕ) {s : Sums} {k e w a c : Bool} → SummedTables su active configured used counters events waiters s k e w
    → a ≡ (eqb s.active.form 0 && s.active.rows && leb s.active.blocks su.mrbwb)
    → c ≡ (eqb s.configured.form 0 && s.configured.rows && leb s.configured.blocks su.mrbwb)
    → TablesChecked su active configured used counters events waiters
    (then_some (a && c && eqb s.over 0 && k && e && w) (record { active = s.active.blocks; configured = s.configured.blocks }))
unfolding pairs
tables_by su active configured used counters events waiters {s} {k} {e} {w} {a} {c} t ea ec =
    let x = table_test su active t.sized.active_long t.active_fits t.summed.active ea in
    let y = table_test su configured t.sized.configured_long t.configured_fits t.summed.configured ec in
    let o : eqb s.over 0 ≡ all_below (length used) (λ i. leb (get_or used i 0) (rbwb_of (get_or active i 0) * su.q)) =
    ap (λ (n : ℕ). eqb n 0) t.summed.over ∙ used_test su.q (su.nr * su.na) active used
    ∙ ap (λ (n : ℕ). all_below n (λ i. leb (get_or used i 0) (rbwb_of (get_or active i 0) * su.q))) (sym t.sized.used_long) in
    let both : (a && c) ≡ (table_ok su active && table_ok su configured) = rw (x.0, y.0) refl in
    totals_found (a && c && eqb s.over 0 && k && e && w) su active configured used counters events waiters _
    (tables_test su active configured used counters events waiters t.sized both o t.counters_are t.events_are t.waiters_are)
    (λ h. record { active = x.1 (search (and_l, and_r) depth 8); configured = y.1 (search (and_l, and_r) depth 8) })
