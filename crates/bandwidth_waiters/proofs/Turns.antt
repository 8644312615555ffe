-- The turn of an RCID by its words is the turn on the tables.
use mathlib.Core.Path.{◌≡◌, refl, sym, ap, ◌∙◌}
use mathlib.Core.Bool.{cond}
use mathlib.Core.List.{List, []}
use Prim.Native.Nat.{ℕ, ◌+◌, ◌-◌, ◌<◌}
use native.Mathlib.Omega.{arith}
use lib.Dec.{eqb, ltb, ltb→lt, nltb→le}
use lib.ListN.{get_or, set, length-take, get_or-eq_default}
use Rattle.tables.specs.Parts.{part, with_part, RowAt}
use Rattle.tables.proofs.Tests.{cases, cond_yes, cond_no, eqb_in, neqb_in}
use Rattle.tables.proofs.Parts.{part_at}
use Rattle.access.specs.Pairs.{word_at}
use Rattle.monitor.specs.Bytes.{counts_request, added}
use Rattle.bandwidth_model.specs.Rules.{Setup, Holder, holder_of}
use Rattle.bandwidth_model.specs.Calls.{Grant}
use Rattle.bandwidth_model.specs.Waiters.{need_of, waiter_mcid, waiter_at, waiter_kind, served_word, held_word, served_of}
use Rattle.bandwidth_model.specs.Model.{Usage}
use Rattle.bandwidth_model.proofs.Settings.{TableFacts, table_facts}
use Rattle.bandwidth_settings.proofs.Rows.{row_word}
use Rattle.bandwidth_grants.specs.View.{usage}
use Rattle.bandwidth_grants.specs.Grants.{holder_in}
use Rattle.bandwidth_grants.proofs.Rows.{Led, none, one, leads, row_spends}
use Rattle.bandwidth_waiters.specs.Served.{RowOpens, RowServed}
use Rattle.bandwidth_waiters.specs.Turns.{Tables, tables, turn, Ready}

-- a part of a table is 0 where the table is
part_zero : (t : List ℕ) (a n i : ℕ) → get_or t (a + i) 0 ≡ 0 → get_or (part a n t) i 0 ≡ 0
part_zero t a n i e =
    cases (λ b. get_or (part a n t) i 0 ≡ 0) (ltb i n) (λ l. part_at t a n i (ltb→lt i n l) ∙ e)
    (λ l. get_or-eq_default (part a n t) 0 {n = i} (simp length-take (omega (arith, nltb→le i n l))))

-- the word of the holder in a row is that of the same holder in the table
module _ (su : Setup) (active : List ℕ) (t : TableFacts su active) {rcid from to : ℕ} (w : RowAt su.nr su.na rcid from to) (hr : rcid < su.nr) (at : ℕ) (ha : at < su.na) where
  abbrev words : List ℕ
  words = part from (to - from) active

  by_led : {h g : Holder} → Led su.na rcid h g → held_word words h ≡ held_word active g
  unfolding held_word word_at
  by_led none = refl
  by_led (one {s} l) = row_word w hr active s l

  pub row_held : held_word words (holder_in words at) ≡ held_word active (holder_of su active rcid at)
  row_held = by_led (leads su (usage active [] 0) t w hr at ha)

module _ (su : Setup) (active events : List ℕ) (size weights : ℕ) (x : Tables) (rcid : ℕ) where
  -- none waits
  pub turn_none : get_or x.waiters rcid 0 ≡ 0 → x ≡ turn su active events size weights x rcid
  unfolding turn
  turn_none e = sym (cond_yes (eqb (get_or x.waiters rcid 0) 0) x _ (eqb_in (get_or x.waiters rcid 0) 0 e))

  module _ (r : Ready su active size x rcid) {from to : ℕ} (w : RowAt su.nr su.na rcid from to) where
    abbrev word : ℕ
    word = get_or x.waiters rcid 0

    -- the row before its turn
    pub turn_opens : (need : ℕ) → need < 4294967296 → RowOpens su (part from (to - from) x.used) x.pool size need
    turn_opens need l = record {
      ranges = r.ranges;
      unused = row_unused;
      pool_low = r.pool_low;
      size_low = r.size_low;
      need_low = l;
    }
      where
        row_unused : (i : ℕ) → get_or (part from (to - from) x.used) i 0 ≡ 0
        row_unused i = part_zero x.used from (to - from) i (r.unused (from + i) (omega (arith, w.from_is r.rcid_low)))

    -- the row's turn is the table's
    pub turn_one : {need mcid at kind : ℕ} {left counters waiters : List ℕ} {g : Grant} {sum gave : ℕ} → (word ≡ 0 → ⊥) → need ≡ need_of word → mcid ≡ waiter_mcid word
        → at ≡ waiter_at word → kind ≡ waiter_kind word
        → RowServed su size weights (part from (to - from) active) (part from (to - from) x.used) x.pool at need left g sum gave
        → counters ≡ cond (counts_request (get_or events mcid 0) at kind) (set x.counters mcid (added su.w sum (get_or x.counters mcid 0))) x.counters
        → waiters ≡ set x.waiters rcid (served_word word sum)
        → tables (with_part from (to - from) x.used left) gave counters waiters ≡ turn su active events size weights x rcid
    unfolding turn
    turn_one {left = left} {g = g} {gave = gave} z e₁ e₂ e₃ e₄ s k v =
        let t = table_facts su active r.active_long r.active_ok in
        let at = waiter_at word in
        let given = served_of su size weights (held_word active (holder_of su active rcid at)) (need_of word) in
        let h = rw e₃ at s in
        let is : g ≡ given = h.grant_is ∙ rw (e₁, row_held su active t w r.rcid_low at r.at_low) refl in
        let u = row_spends su (usage active x.used x.pool) t w r.rcid_low at r.at_low g left gave h.spent in
        rw (v, k, e₂, e₃, e₄, s.sum_is, ap (λ (y : Usage). y.used) u, ap (λ (y : Usage). y.pool) u, is)
        (sym (cond_no (eqb word 0) x _ (neqb_in word 0 z)))
