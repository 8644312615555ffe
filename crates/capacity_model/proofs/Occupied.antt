-- The counter of an MCID that owned no unit when it was configured tells the units that it owns.
use mathlib.Core.Path.{◌≡◌, refl, sym, subst}
use mathlib.Core.Bool.{Bool, true, false, not, cond, ◌&&◌, ◌||◌}
use mathlib.Core.List.{List}
use Prim.Native.Nat.{ℕ, ◌+◌, ◌-◌, ◌^◌, ◌≤◌, ◌<◌}
use native.Mathlib.Nat.{zero-add, mul-le-mul}
use native.Mathlib.Omega.{arith}
use lib.Dec.{T, eqb, eqb→eq, lit<}
use lib.ListN.{length, get_or, set}
use lib.Pow.{pow_pos, pow_mono}
use lib.Seq.{get_or-set_same, get_or-set_other}
use Rattle.tables.specs.Below.{between}
use Rattle.tables.proofs.Tests.{cases, and_l, and_in, nand_r, not_both, cond_yes, eqb_in}
use Rattle.tables.proofs.Laws.{length_stored}
use Rattle.access.specs.Access as access
use Rattle.access.specs.Checks.{on_write}
use Rattle.access.specs.Pairs.{known_at}
use Rattle.access.proofs.Pairs.{known_lt}
use Rattle.codes.specs.Codes.{◌has◌, no_event, capacity_events}
use Rattle.codes.specs.declared.Resource.TheVariants.{Capacity}
use Rattle.codes.specs.declared.MonOp.TheVariants.{ConfigEvent}
use Rattle.codes.specs.declared.AllocOp.TheVariants.{FlushRcid}
use Rattle.codes.specs.declared.CapacityEvent.TheVariants.{Occupancy}
use Rattle.codes.proofs.Rows.{code_of}
use Rattle.allocation.specs.Allocation.{rcid_of}
use Rattle.monitor.specs.Monitor.{mcid_of, event_of, atv_of, mon_succeeds, setting_of, write_mon, matches_at}
use Rattle.monitor.specs.Occupancy.{counts_unit, occupancy_word, filled, evicted}
use Rattle.monitor.proofs.Operations.{done_mcid}
use Rattle.monitor.proofs.Occupancy.{word_invalid, word_ctr}
use Rattle.units.specs.Owners.{units_of, flushed_owners}
use Rattle.units.specs.Counts.{flushed}
use Rattle.units.proofs.Occupied.{Has, evicted_has, filled_has, flushed_has}
use Rattle.runs.specs.Runs.{after, event, step_of, note_of}
use Rattle.runs.proofs.Steps.{step_by, done_step}
use Rattle.runs.proofs.Laws.{kept_untouched, keeps_step}
use Rattle.runs.proofs.Checks.{passed_own}
use Rattle.runs.proofs.Registers as shared
use Rattle.capacity_model.specs.Rules.{unit_count, alloc_succeeds, owners_after}
use Rattle.capacity_model.specs.Calls.{Call, kind_of, reset, read, write, fill, evict}
use Rattle.capacity_model.specs.Model.{State, counters_after, alloc_written, write_at, unit_filled, fill_allowed, fill_with, unit_evicted, perform, argument_checks, refusal}
use Rattle.capacity_model.specs.Model as model
use Rattle.capacity_model.specs.Ledger.{Ledger, accepted}
use Rattle.capacity_model.specs.View.{Named}
use Rattle.capacity_model.specs.Claim.{controller, is_reset, book}
use Rattle.capacity_model.specs.Occupied.{configures, renews, Tells, TellsUnits, Occupied}
use Rattle.capacity_model.proofs.Setup.{ranges}
use Rattle.capacity_model.proofs.Steps.{accepting, checking, fill_named, unit_named, write_by}
use Rattle.capacity_model.proofs.Invariant.{Good, ledger_by, Inv, keeps}
use Rattle.capacity_model.proofs.Registers.{registered, invariants}

-- ---- one counter

-- the counter tells n, which is in its range
pub record Exact (w n c : ℕ) : Type 0 where
  pub tells : Tells c n
  pub low : n < 2 ^ w

exact : (w : ℕ) → w ≤ 62 → (n : ℕ) → n < 2 ^ w → Exact w n (occupancy_word 0 n)
exact w h n l = record { tells = record { valid = word_invalid w h 0 n (lit< tt) l; count = word_ctr w h 0 n (lit< tt) l }; low = l }

apart : (x y : ℕ) → (x ≡ y → ⊥) → eqb x y ≡ false
apart x y d = cases (λ b. b ≡ false) (eqb x y) (λ e. absurd (d (eqb→eq x y e))) (λ e. refl)

more : (w : ℕ) → w ≤ 62 → (n c : ℕ) → n < 2 ^ w - 1 → Exact w n c → Exact w (n + 1) (filled w c)
unfolding filled
more w h n c l t = rw (t.tells.count, t.tells.valid, apart n (2 ^ w - 1) (λ e. omega arith)) (exact w h (n + 1) (omega arith))

less : (w : ℕ) → w ≤ 62 → (n c : ℕ) → Exact w (n + 1) c → Exact w n (evicted c)
unfolding evicted
less w h n c t =
    let e : n + 1 - 1 ≡ n = omega arith in
    rw (t.tells.count, t.tells.valid, apart (n + 1) 0 (λ q. omega arith), e) (exact w h n (omega (arith, t.low)))

-- ---- one call

-- what holds of the entry that is stored
at_same : (P : ℕ → Type 0) (b : Bool) (t : List ℕ) (i x : ℕ) → T b → i < length t → P x → P (get_or (cond b (set t i x) t) i 0)
at_same P b t i x y l p = rw (cond_yes b (set t i x) t y, get_or-set_same t i x 0 l) p

-- what holds of an entry stays where another is stored
at_other : (P : ℕ → Type 0) (b : Bool) (t : List ℕ) (i j x : ℕ) → (T b → j ≡ i → ⊥) → P (get_or t j 0) → P (get_or (cond b (set t i x) t) j 0)
at_other P b t i j x d p = cases (λ y. (T y → j ≡ i → ⊥) → P (get_or (cond y (set t i x) t) j 0)) b (λ y h. rw (get_or-set_other t i j x 0 (h tt)) p) (λ n h. p) d

-- the setting counts every AT
abbrev All : ℕ → List ℕ → Type 0
All mcid settings = (at : ℕ) → T (counts_unit (get_or settings mcid 0) at)

pub record Track (mcid : ℕ) (s : State) : Type 0 where
  pub all : All mcid s.monitor.events
  pub counts : Has 0 s.monitor.events (Exact s.setup.w) mcid all (units_of mcid s.owners) s.monitor.counters

module _ (mcid : ℕ) {s : State} (g : Good s) (k : Track mcid s) where
  w_high : s.setup.w ≤ 62
  w_high = (ranges s.setup g.setup).w_high

  track_alloc : (v : ℕ) → Track mcid (alloc_written s v)
  unfolding alloc_written owners_after counters_after
  track_alloc v =
      let events = s.monitor.events in
      let counters = s.monitor.counters in
      record {
        all = k.all;
        counts =
            cases (λ b. Has 0 events (Exact s.setup.w) mcid k.all (units_of mcid (cond b (flushed_owners (rcid_of v) s.owners) s.owners))
            (cond b (flushed 0 events evicted (rcid_of v) s.owners counters) counters)) (alloc_succeeds s.setup s.alloc.mask FlushRcid v)
            (λ y. rw zero-add at (flushed_has 0 events (Exact s.setup.w) mcid k.all evicted (less s.setup.w w_high) (rcid_of v) 0 s.owners counters (rw zero-add k.counts)))
            (λ n. k.counts);
      }

  few : length s.owners < 2 ^ s.setup.w - 1
  unfolding unit_count
  few =
      let r = ranges s.setup g.setup in
      omega (arith, g.owners.long, mul-le-mul r.ncblks_high r.units_high, pow_mono {i = 24} {j = s.setup.w} r.w_low)

  fill_tracked : (rcid m at unit : ℕ) → Named s.setup rcid m unit → (ok : Bool) → Track mcid (fill_with s rcid m at unit ok).state
  unfolding fill_with unit_filled
  fill_tracked rcid m at unit n true =
      let su = s.setup in
      let r = ranges su g.setup in
      record {
        all = k.all;
        counts = filled_has 0 s.monitor.events (Exact su.w) mcid k.all evicted (less su.w w_high) s.owners unit (rw g.owners.long n.unit_in)
            (filled su.w) (2 ^ su.w - 1) few (more su.w w_high) s.monitor.counters rcid m (known_at su.na at)
            (omega (arith, n.rcid_in, r.nr_high)) (omega (arith, n.mcid_in, r.nm_high)) (omega (arith, known_lt su.na at r.na_low, r.na_high)) k.counts;
      }
  fill_tracked rcid m at unit n false = k

  evict_tracked : (unit : ℕ) → unit < unit_count s.setup → Track mcid (unit_evicted s unit)
  unfolding unit_evicted
  evict_tracked unit l = record {
    all = k.all;
    counts = evicted_has 0 s.monitor.events (Exact s.setup.w) mcid k.all evicted (less s.setup.w w_high) s.owners unit (rw g.owners.long l) s.monitor.counters k.counts;
  }

  -- an operation of mon_ctl that gives this counter no new setting
  mon_tracked : (v : ℕ) → T (not (mon_succeeds s.setup.na s.setup.nm Capacity ConfigEvent v && eqb (mcid_of v) mcid))
      → Track mcid (model.with_monitor s (write_mon s.setup.na s.setup.nm Capacity s.monitor v))
  unfolding write_mon mon_succeeds
  mon_tracked v t =
      let m = s.monitor in
      let sets = mon_succeeds s.setup.na s.setup.nm Capacity ConfigEvent v in
      let clears = not (no_event has event_of v) in
      let of_other : T sets → mcid ≡ mcid_of v → ⊥ = λ y e. not_both (eqb (mcid_of v) mcid) (eqb_in (mcid_of v) mcid (sym e)) (nand_r sets (eqb (mcid_of v) mcid) t y) in
      record {
        all = λ at. at_other (λ x. T (counts_unit x at)) sets m.events (mcid_of v) mcid _ of_other (k.all at);
        counts = record {
          known = rw (length_stored (sets && clears) m.counters (mcid_of v) 0) k.counts.known;
          count = at_other (Exact s.setup.w (units_of mcid s.owners)) (sets && clears) m.counters (mcid_of v) mcid 0 (λ y. of_other (and_l sets clears y)) k.counts.count;
        };
      }

  call_tracked : (c : Call) → refusal s c ≡ 0
      → T (not (is_reset c || on_write (kind_of c) (λ size offset v. access.writes_low offset access.mon_ctl && (configures (ledger_by s) v && eqb (mcid_of v) mcid)) false))
      → Track mcid (perform s c).state
  unfolding perform argument_checks
  call_tracked (reset su) e t = absurd t
  call_tracked (read size offset) e t = k
  call_tracked (write size offset v) e t =
      write_by s (λ x y z s'. T (not (z && (configures (ledger_by s) v && eqb (mcid_of v) mcid))) → Track mcid s') size offset v (λ n. track_alloc v)
      (λ n. record { all = k.all; counts = k.counts }) (mon_tracked v) (λ n. k) t
  call_tracked (fill rcid m at unit) e t =
      fill_tracked rcid m at unit (fill_named s.setup rcid m unit (passed_own checking s (fill rcid m at unit) tt e)) (fill_allowed s rcid at unit)
  call_tracked (evict unit) e t = evict_tracked unit (unit_named s.setup unit (passed_own checking s (evict unit) tt e))

-- ---- lists of calls

step_tracked : (mcid : ℕ) (s : State) (l : Ledger) → Inv s l → Track mcid s → (c : Call) → T (not (renews mcid l (event (step_of controller) s c))) → Track mcid (step_of controller s c).state
unfolding renews
step_tracked mcid s l i k c =
    let again : Ledger → Bool = λ n. is_reset c || on_write (kind_of c) (λ size offset v. access.writes_low offset access.mon_ctl && (configures n v && eqb (mcid_of v) mcid)) false in
    step_by controller.refusal controller.perform controller.refused s c (λ o. T (not (accepted o.answer && again l)) → Track mcid o.state)
    (λ e t. call_tracked mcid i.good k c e
    (subst (λ (n : Ledger). T (not (again n))) i.same (nand_r (accepted (perform s c).answer) (again l) t (accepting.performs s c))))
    (λ e t. k)

-- the setting with event Occupancy and ATV 0 counts every AT
setting_all : (na v : ℕ) → T (capacity_events Occupancy has event_of v) → atv_of na v ≡ 0 → (at : ℕ) → T (counts_unit (setting_of na v) at)
unfolding setting_of counts_unit matches_at capacity_events ◌has◌ between
setting_all na v o z at = rw (code_of 1 (event_of v) o, z) tt

-- configured, it tells that its MCID owns no unit
configured : {s : State} → Good s → (v : ℕ) → T (configures (ledger_by s) v) → T (capacity_events Occupancy has event_of v) → atv_of s.setup.na v ≡ 0
    → units_of (mcid_of v) s.owners ≡ 0 → Track (mcid_of v) (model.with_monitor s (write_mon s.setup.na s.setup.nm Capacity s.monitor v))
unfolding write_mon mon_succeeds capacity_events ◌has◌ between
configured {s} g v d o z n =
    let su = s.setup in
    let m = s.monitor in
    let sets = mon_succeeds su.na su.nm Capacity ConfigEvent v in
    let clears = not (no_event has event_of v) in
    let low = done_mcid su.na su.nm Capacity ConfigEvent v d in
    let some : T clears = rw (code_of 1 (event_of v) o) tt in
    record {
      all = λ at. at_same (λ x. T (counts_unit x at)) sets m.events (mcid_of v) _ d (rw g.monitor.events_long low) (setting_all su.na v o z at);
      counts = record {
        known = rw (length_stored (sets && clears) m.counters (mcid_of v) 0, g.monitor.counters_long) low;
        count =
            rw n
            (at_same (Exact su.w 0) (sets && clears) m.counters (mcid_of v) 0 (and_in sets clears d some) (rw g.monitor.counters_long low)
            (record { tells = record { valid = refl; count = refl }; low = pow_pos su.w }));
      };
    }

pub occupied : Occupied
unfolding after perform write_at
occupied = record {
  always = shared.ledger_always registered invariants TellsUnits (λ s l i size v mcid between h.
      let c = write size 8 v in
      let k = subst (λ (n : Ledger). (T (configures n v) × (atv_of n.setup.na v ≡ 0)) × (units_of (mcid_of v) n.owners ≡ 0)) i.same ((h.succeeds, h.any_at), rw h.named h.no_unit) in
      let first : Track mcid (step_of controller s c).state =
      rw (done_step accepting s c h.written) (subst (λ (x : ℕ). Track x (perform s c).state) h.named (configured i.good v k.0.0 h.occupancy k.0.1 k.1)) in
      (kept_untouched (step_of controller) (note_of controller book.keeper) (renews mcid) (λ y n. Inv y n × Track mcid y)
      (λ y n q d t. (keeps_step accepting keeps y n q.0 d, step_tracked mcid y n q.0 q.1 d t)) between (step_of controller s c).state
      (note_of controller book.keeper l (event (step_of controller) s c)) (keeps_step accepting keeps s l i c, first) h.lasts).1.counts.count.tells);
}
