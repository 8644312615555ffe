-- The turns of all RCIDs are the model's window end, and each finds its row ready.
use mathlib.Core.Path.{◌≡◌, refl, sym, ap, ◌∙◌}
use mathlib.Core.Bool.{cond}
use mathlib.Core.List.{List}
use Prim.Native.Nat.{ℕ, zero, suc, ◌+◌, ◌-◌, ◌*◌, ◌/◌, ◌≤◌, ◌<◌}
use native.Mathlib.Nat.{min-le_left, suc-mul, mul-le-mul, mul-le-mul_right}
use native.Mathlib.Numerals.{add-one}
use native.Mathlib.Omega.{arith}
use lib.Dec.{eqb, eqb→eq}
use lib.ListN.{length, get_or, replicate, length-set, length-replicate}
use lib.Seq.{get_or-set_other}
use Rattle.fields.specs.Registers as reg
use Rattle.fields.proofs.Laws.{get_lt}
use Rattle.tables.specs.Parts.{RowAt}
use Rattle.tables.proofs.Tests.{cases, neqb}
use Rattle.tables.proofs.Laws.{get_or_zeros}
use Rattle.access.specs.Pairs.{pair}
use Rattle.monitor.specs.Monitor.{Monitor, counted}
use Rattle.bandwidth_model.specs.Rules.{Setup, pairs, Holder, nobody, held, holder_of, total, pool_of}
use Rattle.bandwidth_model.specs.Calls.{Grant}
use Rattle.bandwidth_model.specs.Waiters.{need_of, waiter_at, need_at, held_word, served_of, own_part, share_weight, pool_part, waiter_holder, weights_below, served_at, waiters_served, over_waiters}
use Rattle.bandwidth_model.specs.Model.{Usage, spend, opened, usage_served, monitor_served}
use Rattle.bandwidth_model.proofs.Settings.{table_facts}
use Rattle.bandwidth_model.proofs.Waiters.{over_none, over_one, served_events}
use Rattle.bandwidth_grants.specs.View.{usage}
use Rattle.bandwidth_grants.proofs.Rows.{Led, none, one, leads}
use Rattle.bandwidth_waiters.specs.Turns.{Tables, tables, served_turn, turn, turns, Opens, Ready}
use Rattle.bandwidth_waiters.proofs.Weights.{at_low}

-- where the words of an RCID stand
row_is : {su : Setup} {active waiters : List ℕ} → Opens su active waiters → (rcid : ℕ) → rcid < su.nr → RowAt su.nr su.na rcid (rcid * su.na) (rcid * su.na + su.na)
row_is {su} o rcid l =
    let top : rcid * su.na + su.na ≤ su.nr * su.na = omega (arith, suc-mul rcid su.na, mul-le-mul_right su.na l) in
    record {
      from_is = λ h. refl;
      long = λ h. omega arith;
      none = λ h. absurd (omega arith);
      order = omega arith;
      short = omega arith;
      inside = top;
      few = omega (arith, top, mul-le-mul o.ranges.nr_high o.ranges.na_high);
    }

-- what a grant spends: the table stays, and only words of the RCID's row change
spend_usage : (active used : List ℕ) (pool : ℕ) (h : Holder) (g : Grant) → usage active (spend (usage active used pool) h g).used (spend (usage active used pool) h g).pool ≡ spend (usage active used pool) h g
unfolding spend
spend_usage active used pool nobody g = refl
spend_usage active used pool (held i) g = refl

spend_long : (active used : List ℕ) (pool : ℕ) (h : Holder) (g : Grant) → length (spend (usage active used pool) h g).used ≡ length used
unfolding spend
spend_long active used pool nobody g = refl
spend_long active used pool (held i) g = length-set used i _

spend_pool : (active used : List ℕ) (pool : ℕ) (h : Holder) (g : Grant) → (spend (usage active used pool) h g).pool ≤ pool + g.pool
unfolding spend
spend_pool active used pool nobody g = omega arith
spend_pool active used pool (held i) g = omega arith

spend_past : (active used : List ℕ) (pool na rcid : ℕ) (g : Grant) {h k : Holder} → Led na rcid h k → (i : ℕ) → suc rcid * na ≤ i
    → get_or (spend (usage active used pool) k g).used i 0 ≡ get_or used i 0
unfolding spend pair
spend_past active used pool na rcid g none i l = refl
spend_past active used pool na rcid g (one {s} b) i l = get_or-set_other used (rcid * na + s) i _ 0 (λ (e : i ≡ rcid * na + s). omega (arith, suc-mul rcid na))

-- what the pool serves is at most the need
part_low : (su : Setup) (size weights word need : ℕ) → (served_of su size weights word need).pool ≤ need
unfolding served_of pool_part
part_low su size weights word need = omega (arith, min-le_left (need - own_part su word need) (size * share_weight su word need / weights))

module _ {su : Setup} {active waiters : List ℕ} (o : Opens su active waiters) (m : Monitor) where
  abbrev start : Tables
  start = tables (replicate (pairs su) 0) 0 m.counters waiters

  abbrev size : ℕ
  size = pool_of su active

  abbrev weights : ℕ
  weights = weights_below su active waiters su.nr

  -- after the turns below n
  pub record Went (n : ℕ) (y : Tables) : Type 0 where
    pub usage_is : usage active y.used y.pool ≡ usage_served su active waiters n
    pub counters_are : y.counters ≡ (monitor_served su active waiters m n).counters
    pub waiters_are : y.waiters ≡ waiters_served su active waiters n
    pub found : (i : ℕ) → n ≤ i → get_or y.waiters i 0 ≡ get_or waiters i 0
    pub unused : (i : ℕ) → n * su.na ≤ i → get_or y.used i 0 ≡ 0
    pub used_long : length y.used ≡ pairs su
    pub pool_low : y.pool ≤ n * 4294967296

  went_none : Went 0 start
  unfolding usage_served monitor_served waiters_served over_waiters opened
  went_none = record {
    usage_is = refl;
    counters_are = refl;
    waiters_are = refl;
    found = λ i l. refl;
    unused = λ i l. get_or_zeros (pairs su) i;
    used_long = length-replicate (pairs su) 0;
    pool_low = omega arith;
  }

  -- none waits under the RCID n
  went_past : (n : ℕ) (y : Tables) → Went n y → get_or waiters n 0 ≡ 0 → Went (suc n) y
  unfolding usage_served monitor_served waiters_served
  went_past n y w z = record {
    usage_is = w.usage_is ∙ sym (over_none _ waiters _ n z);
    counters_are = w.counters_are ∙ ap (λ (k : Monitor). k.counters) (sym (over_none _ waiters _ n z));
    waiters_are = w.waiters_are ∙ sym (over_none _ waiters _ n z);
    found = λ i l. w.found i (omega arith);
    unused = λ i l. w.unused i (omega (arith, suc-mul n su.na));
    used_long = w.used_long;
    pool_low = omega (arith, w.pool_low);
  }

  module _ (n : ℕ) (y : Tables) (w : Went n y) (l : n < su.nr) where
    abbrev word : ℕ
    word = get_or waiters n 0

    abbrev holder : Holder
    holder = waiter_holder su active waiters n

    abbrev g : Grant
    g = served_at su active waiters n

    pool_small : g.pool < 4294967296
    unfolding served_at need_at need_of
    pool_small = omega (arith, part_low su size weights (held_word active holder) (need_of word), get_lt reg.waiter_need word)

    -- its waiter is served
    went_served : (word ≡ 0 → ⊥) → Went (suc n) (served_turn su active m.events size weights y n word holder g)
    unfolding usage_served monitor_served waiters_served counted waiter_holder
    went_served z =
        let t = table_facts su active o.active_long o.active_ok in
        record {
          usage_is = spend_usage active y.used y.pool holder g ∙ ap (λ (u : Usage). spend u holder g) w.usage_is ∙ sym (over_one _ waiters _ n z);
          counters_are = rw (over_one _ waiters m n z, ← w.counters_are, served_events su active waiters m n) refl;
          waiters_are = rw w.waiters_are (sym (over_one _ waiters waiters n z));
          found = λ i b. get_or-set_other y.waiters n i _ 0 (λ (e : i ≡ n). omega arith) ∙ w.found i (omega arith);
          unused = λ i b. spend_past active y.used y.pool su.na n g (leads su (usage active y.used y.pool) t (row_is o n l) l (waiter_at word) (at_low o n l)) i b
              ∙ w.unused i (omega (arith, suc-mul n su.na));
          used_long = spend_long active y.used y.pool holder g ∙ w.used_long;
          pool_low = omega (arith, w.pool_low, spend_pool active y.used y.pool holder g, pool_small);
        }

    -- the turn of the RCID n
    pub went_next : Went (suc n) (turn su active m.events size weights y n)
    unfolding turn waiter_holder served_at need_at
    went_next =
        let v = get_or y.waiters n 0 in
        let h = holder_of su active n (waiter_at v) in
        let same : v ≡ word = w.found n (omega arith) in
        cases (λ b. Went (suc n) (cond b y (served_turn su active m.events size weights y n v h (served_of su size weights (held_word active h) (need_of v))))) (eqb v 0)
        (λ t. went_past n y w (sym same ∙ eqb→eq v 0 t)) (λ t. rw same (went_served (λ e. neqb v 0 t (same ∙ e))))

    -- its row is ready
    pub went_ready : Ready su active size y n
    unfolding pool_of
    went_ready = record {
      ranges = o.ranges;
      active_long = o.active_long;
      active_ok = o.active_ok;
      rcid_low = l;
      at_low = rw (w.found n (omega arith)) (at_low o n l);
      used_long = w.used_long;
      unused = w.unused;
      pool_low = omega (arith, w.pool_low, o.ranges.nr_high);
      size_low = omega (arith, mul-le-mul {n₁ = su.nbwblks - total active} {n₂ = 65535} (omega (arith, o.ranges.nbwblks_high)) o.ranges.q_high);
    }

  pub went : (n : ℕ) → n ≤ su.nr → Went n (turns su active m.events size weights start n)
  unfolding turns
  went zero l = went_none
  went (suc n) l = went_next n _ (went n (omega arith)) (omega arith)

  -- where none waits there is nothing to do
  pub went_still : (n : ℕ) → n ≤ su.nr → ((i : ℕ) → i < n → get_or waiters i 0 ≡ 0) → Went n start
  went_still zero l z = went_none
  went_still (suc n) l z = went_past n start (went_still n (omega arith) (λ i b. z i (omega arith))) (z n (omega arith))

-- ---- the turns as the code makes them

module _ {su : Setup} {active waiters : List ℕ} (o : Opens su active waiters) (used counters events : List ℕ) {size weights : ℕ} (u : used ≡ replicate (pairs su) 0)
    (s : size ≡ pool_of su active) (w : weights ≡ weights_below su active waiters su.nr) where
  abbrev after : ℕ → Tables
  after n = turns su active events size weights (tables used 0 counters waiters) n

  -- mon_ctl and mon_ctr_val do not matter
  abbrev monitor : Monitor
  monitor = record { ctl = 0; value = 0; counters = counters; events = events }

  pub turns_ready : (n : ℕ) → n < su.nr → Ready su active size (after n) n
  turns_ready n l = rw (u, s, w) (went_ready o monitor n _ (went o monitor n (omega arith)) l)

pub turns_none : (su : Setup) (active events : List ℕ) (size weights : ℕ) (x : Tables) → x ≡ turns su active events size weights x 0
unfolding turns
turns_none su active events size weights x = refl

pub turns_next : (su : Setup) (active events : List ℕ) (size weights : ℕ) (x : Tables) (n : ℕ) {y z : Tables} → y ≡ turns su active events size weights x n
    → z ≡ turn su active events size weights y n → z ≡ turns su active events size weights x (n + 1)
unfolding turns
turns_next su active events size weights x n e f = rw (f, e, add-one) refl
