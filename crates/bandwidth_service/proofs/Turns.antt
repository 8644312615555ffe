-- The turns of RCIDs on bytes: every word fits, so the words of the bytes that a turn leaves are those of the turn.
use mathlib.Core.Path.{◌≡◌, refl, ap, ◌∙◌}
use mathlib.Core.Bool.{cond}
use mathlib.Core.List.{List, [], ◌∷◌}
use Prim.Native.Nat.{ℕ, zero, suc, ◌+◌, ◌-◌, ◌*◌, ◌^◌, ◌≤◌, ◌<◌}
use native.Mathlib.Nat.{min-le_right, mul-le-mul}
use native.Mathlib.Omega.{arith}
use lib.Dec.{eqb, eqb→eq, ltb, lit<}
use lib.ListN.{length, get_or, set, replicate}
use Rattle.fields.specs.Layout.{get, pack, named_bits, unpack}
use Rattle.fields.specs.Registers as reg
use Rattle.fields.proofs.Laws.{get_lt, pack_lt, unpack_in_range}
use Rattle.fields.proofs.Registers.{bandwidth_counter_ordered, waiter_ordered}
use Rattle.tables.specs.Parts.{RowAt}
use Rattle.tables.proofs.Tests.{cases, and_r}
use Rattle.tables.proofs.Laws.{every_set, every_stored}
use Rattle.words.specs.Words.{bytes_of_all, table_of, with_word, Holds}
use Rattle.words.proofs.Parts.{table_bytes, table_held, table_below}
use Rattle.words.proofs.Held.{put_held}
use Rattle.access.specs.Pairs.{pair, word_at}
use Rattle.monitor.specs.Monitor.{counter_ok}
use Rattle.monitor.specs.Bytes.{counts_request, added}
use Rattle.monitor.proofs.Counters.{added_ok}
use Rattle.bandwidth_model.specs.Rules.{Setup, pairs, reserved, is_holder, is_sharer, shared_at_of, Holder, nobody, held, holder_of, pool_of}
use Rattle.bandwidth_model.specs.View.{Ranges}
use Rattle.bandwidth_model.specs.Calls.{Grant, grant_sum}
use Rattle.bandwidth_model.specs.Waiters.{need_of, waiter_mcid, waiter_at, waiter_kind, waiter_word, served_word, held_word, served_of, own_part, weights_below}
use Rattle.bandwidth_model.specs.Model.{spend}
use Rattle.bandwidth_model.proofs.Words.{reserved_le}
use Rattle.bandwidth_grants.specs.View.{usage}
use Rattle.bandwidth_grants.specs.declared.Given.{Given}
use Rattle.bandwidth_waiters.specs.Turns.{Tables, tables, served_turn, turn, turns, Opens, Ready}
use Rattle.bandwidth_waiters.proofs.Turns.{turn_none, turn_one}
use Rattle.bandwidth_waiters.proofs.Windows.{turns_ready, turns_next}
use Rattle.bandwidth_service.specs.Service.{tables_in, Served, Words, Turns, Turned, Begins}

-- ---- every word fits its width

pub record Fit (x : Tables) : Type 0 where
  pub used : (i : ℕ) → get_or x.used i 0 < 4294967296
  pub counters : (i : ℕ) → get_or x.counters i 0 < 18446744073709551616
  pub waiters : (i : ℕ) → get_or x.waiters i 0 < 18446744073709551616

-- so the bytes hold them
pub turned_words : {x : Tables} {U N W : List ℕ} {pool : ℕ} → Fit x → Turned x U pool N W → tables_in U pool N W ≡ x
turned_words {x} f t =
    rw (t.used_are, t.pool_is, t.counters_are, t.waiters_are, table_bytes 4 x.used (lit< tt) f.used, table_bytes 8 x.counters (lit< tt) f.counters, table_bytes 8 x.waiters (lit< tt) f.waiters) refl

-- a holder's place is none before its RCID's words
by_place : (su : Setup) (active : List ℕ) (rcid at : ℕ) (P : Holder → Type 0) → P nobody → ((s : ℕ) → P (held (pair su.na rcid s))) → P (holder_of su active rcid at)
unfolding holder_of
by_place su active rcid at P n h =
    let word = word_at su.na active rcid at in
    cases (λ b. P (cond b (held (pair su.na rcid at)) (cond (is_sharer word) (held (pair su.na rcid (shared_at_of word))) nobody))) (is_holder word) (λ t. h at)
    (λ t. cases (λ b. P (cond b (held (pair su.na rcid (shared_at_of word))) nobody)) (is_sharer word) (λ k. h (shared_at_of word)) (λ k. n))

own_fits : {su : Setup} → Ranges su → (size weights word need : ℕ) → (served_of su size weights word need).reserved < 4294967296
unfolding served_of own_part
own_fits {su} r size weights word need = omega (arith, min-le_right need (reserved word * su.q), mul-le-mul (reserved_le word) r.q_high)

added_fits : (w g c : ℕ) → w ≤ 62 → added w g c < 18446744073709551616
unfolding counter_ok
added_fits w g c h =
    let x = added w g c in
    let kept : x ≡ named_bits reg.bandwidth_counter x = eqb→eq x (named_bits reg.bandwidth_counter x) (and_r (ltb (get reg.bandwidth_ctr x) (2 ^ w)) (eqb x (named_bits reg.bandwidth_counter x)) (added_ok w g c h)) in
    rw kept (pack_lt reg.bandwidth_counter 64 (unpack reg.bandwidth_counter x) bandwidth_counter_ordered (unpack_in_range reg.bandwidth_counter x))

waiter_fits : (need mcid at kind : ℕ) → need < 4294967296 → mcid < 256 → at < 8 → kind < 2 → waiter_word need mcid at kind < 18446744073709551616
unfolding waiter_word
waiter_fits need mcid at kind a b c d =
    let values = kind ∷ at ∷ mcid ∷ need ∷ [] in
    cases (λ e. cond e 0 (pack reg.waiter values) < 18446744073709551616) (eqb need 0) (λ t. lit< tt) (λ t. omega (arith, pack_lt reg.waiter 44 values waiter_ordered (d, (c, (b, (a, tt))))))

served_fits : (word g : ℕ) → served_word word g < 18446744073709551616
unfolding served_word need_of waiter_mcid waiter_at waiter_kind
served_fits word g =
    waiter_fits _ _ _ _ (omega (arith, get_lt reg.waiter_need word)) (get_lt reg.waiter_mcid word) (get_lt reg.waiter_at word) (get_lt reg.waiter_write word)

module _ (su : Setup) (active events : List ℕ) (size weights : ℕ) where
  module _ {x : Tables} {rcid : ℕ} (r : Ready su active size x rcid) (f : Fit x) where
    abbrev word : ℕ
    word = get_or x.waiters rcid 0

    used_fits : (g : Grant) → g.reserved < 4294967296 → (i : ℕ) → get_or (spend (usage active x.used x.pool) (holder_of su active rcid (waiter_at word)) g).used i 0 < 4294967296
    unfolding spend pair
    used_fits g l i =
        by_place su active rcid (waiter_at word) (λ h. get_or (spend (usage active x.used x.pool) h g).used i 0 < 4294967296) (f.used i)
        (λ s. every_set (λ v. v < 4294967296) x.used (rcid * su.na + s) _ f.used (omega (arith, r.unused (rcid * su.na + s) (omega arith))) i)

    pub turn_fits : Fit (turn su active events size weights x rcid)
    unfolding turn
    turn_fits =
        let h = holder_of su active rcid (waiter_at word) in
        let g = served_of su size weights (held_word active h) (need_of word) in
        let counts = counts_request (get_or events (waiter_mcid word) 0) (waiter_at word) (waiter_kind word) in
        cases (λ b. Fit (cond b x (served_turn su active events size weights x rcid word h g))) (eqb word 0) (λ t. f)
        (λ t. record {
          used = used_fits g (own_fits r.ranges size weights (held_word active h) (need_of word));
          counters = every_stored (λ v. v < 18446744073709551616) counts x.counters (waiter_mcid word) _ f.counters (λ k. added_fits su.w (grant_sum g) _ r.ranges.w_high);
          waiters = every_set (λ v. v < 18446744073709551616) x.waiters rcid _ f.waiters (served_fits word (grant_sum g));
        })

  -- after all turns
  pub turns_fit : {used counters waiters : List ℕ} → Opens su active waiters → used ≡ replicate (pairs su) 0 → size ≡ pool_of su active → weights ≡ weights_below su active waiters su.nr
      → Fit (tables used 0 counters waiters) → (n : ℕ) → n ≤ su.nr → Fit (turns su active events size weights (tables used 0 counters waiters) n)
  unfolding turns
  turns_fit o u s w f zero l = f
  turns_fit {used} {counters} o u s w f (suc n) l = turn_fits (turns_ready o used counters events u s w n (omega arith)) (turns_fit o u s w f n (omega arith))

-- ---- one turn on bytes

module _ {su : Setup} {active used counters events waiters : List ℕ} {size pool rcid : ℕ} (t : Turns su active used counters events waiters size pool rcid) where
  abbrev before : Tables
  before = tables_in used pool counters waiters

  -- none waits
  pub turned_none : (weights : ℕ) → get_or (table_of 8 waiters) rcid 0 ≡ 0
      → Turned (turn su (table_of 4 active) (table_of 2 events) size weights before rcid) used pool counters waiters
  turned_none weights z =
      let w = t.words in
      rw (← turn_none su (table_of 4 active) (table_of 2 events) size weights before rcid z)
      (record { used_are = w.used.bytes_are; pool_is = refl; counters_are = w.counters.bytes_are; waiters_are = w.waiters.bytes_are })

  -- its waiter is served
  module _ {from to : ℕ} (w : RowAt su.nr su.na rcid from to) (weights : ℕ) where
    abbrev entry : ℕ
    entry = get_or (table_of 8 waiters) rcid 0

    pub turned_one : {need mcid at kind sent : ℕ} {U N W : List ℕ} {r : Given} → (entry ≡ 0 → ⊥) → need ≡ need_of entry → mcid ≡ waiter_mcid entry → at ≡ waiter_at entry → kind ≡ waiter_kind entry
        → Served su active used from (to - from) pool size weights at need U r
        → ((ns es : List ℕ) → Holds 8 counters ns → Holds 2 events es
        → N ≡ bytes_of_all 8 (cond (counts_request (get_or es mcid 0) at kind) (set ns mcid (added su.w r.sum (get_or ns mcid 0))) ns))
        → W ≡ with_word 8 waiters rcid sent → sent ≡ served_word entry r.sum
        → Turned (turn su (table_of 4 active) (table_of 2 events) size weights before rcid) U r.pool N W
    turned_one {sent = sent} z e₁ e₂ e₃ e₄ s n v k =
        let b = t.words in
        let x = turn_one su (table_of 4 active) (table_of 2 events) size weights before rcid t.ready w z e₁ e₂ e₃ e₄ s.served refl refl in
        record {
          used_are = s.bytes_are b.used.bytes_are ∙ ap (λ (y : Tables). bytes_of_all 4 y.used) x;
          pool_is = ap (λ (y : Tables). y.pool) x;
          counters_are = n _ _ b.counters b.events ∙ ap (λ (y : Tables). bytes_of_all 8 y.counters) x;
          waiters_are = v ∙ put_held 8 (lit< tt) rcid sent waiters (table_of 8 waiters) b.waiters
              ∙ ap (λ (m : ℕ). bytes_of_all 8 (set (table_of 8 waiters) rcid m)) k ∙ ap (λ (y : Tables). bytes_of_all 8 y.waiters) x;
        }

-- ---- all turns on bytes

-- bytes fit
pub bytes_fit : (U N W : List ℕ) (pool : ℕ) → ((i : ℕ) → get_or U i 0 < 256) → ((i : ℕ) → get_or N i 0 < 256) → ((i : ℕ) → get_or W i 0 < 256) → Fit (tables_in U pool N W)
bytes_fit U N W pool u n w = record { used = table_below 4 U (lit< tt) u; counters = table_below 8 N (lit< tt) n; waiters = table_below 8 W (lit< tt) w }

-- and so do words, both ways
pub words_in : (su : Setup) {U N E W : List ℕ} → length U ≡ pairs su * 4 → length N ≡ su.nm * 8 → length W ≡ su.nr * 8 → Holds 2 E (table_of 2 E)
    → ((i : ℕ) → get_or U i 0 < 256) → ((i : ℕ) → get_or N i 0 < 256) → ((i : ℕ) → get_or W i 0 < 256) → Words U N E W
words_in su {U} {N} {E} {W} lu ln lw e u n w =
    record { used = table_held 4 (pairs su) U (lit< tt) lu u; counters = table_held 8 su.nm N (lit< tt) ln n; events = e; waiters = table_held 8 su.nr W (lit< tt) lw w }

module _ {su : Setup} {active used counters events waiters : List ℕ} {size weights : ℕ} (b : Begins su active used counters events waiters size weights)
    (fits : Fit (tables_in used 0 counters waiters)) where
  abbrev now : ℕ → Tables
  now n = turns su (table_of 4 active) (table_of 2 events) size weights (tables_in used 0 counters waiters) n

  fit_now : (n : ℕ) → n ≤ su.nr → Fit (now n)
  fit_now n l = turns_fit su (table_of 4 active) (table_of 2 events) size weights b.weighs.opens b.unused b.size_is b.weights_are fits n l

  ready_now : (n : ℕ) → n < su.nr → Ready su (table_of 4 active) size (now n) n
  ready_now n l = turns_ready b.weighs.opens (table_of 4 used) (table_of 8 counters) (table_of 2 events) b.unused b.size_is b.weights_are n l

  module _ (U N W : List ℕ) (pool n : ℕ) (e : tables_in U pool N W ≡ now n) where
    pub turn_starts : n < su.nr → length U ≡ pairs su * 4 → Words U N events W → Turns su active U N events W size pool n
    turn_starts l long w = record { ready = rw e (ready_now n l); words = w; active_long = b.weighs.active_long; used_long = long }

    pub turn_ends : {U' N' W' : List ℕ} {pool' : ℕ} → n < su.nr → Turned (turn su (table_of 4 active) (table_of 2 events) size weights (tables_in U pool N W) n) U' pool' N' W'
        → tables_in U' pool' N' W' ≡ now (n + 1)
    turn_ends l t =
        let k = rw e at t in
        turns_next su (table_of 4 active) (table_of 2 events) size weights (tables_in used 0 counters waiters) n refl
        (turned_words (turn_fits su (table_of 4 active) (table_of 2 events) size weights (ready_now n l) (fit_now n (omega arith))) k)

    -- the bytes are those of all turns
    pub all_turned : n ≡ su.nr → Words U N events W → Turned (now su.nr) U pool N W
    all_turned f w =
        let x = e ∙ ap now f in
        record {
          used_are = w.used.bytes_are ∙ ap (λ (y : Tables). bytes_of_all 4 y.used) x;
          pool_is = ap (λ (y : Tables). y.pool) x;
          counters_are = w.counters.bytes_are ∙ ap (λ (y : Tables). bytes_of_all 8 y.counters) x;
          waiters_are = w.waiters.bytes_are ∙ ap (λ (y : Tables). bytes_of_all 8 y.waiters) x;
        }
