-- A call by its checks, and its steps, each by its own definition, put together.
use Rattle.std.specs.Prelude.{Ok, Err}
use mathlib.Core.Path.{◌≡◌, refl, sym, ap, ◌∙◌}
use mathlib.Core.Bool.{Bool, true, false, not, cond}
use mathlib.Core.List.{List}
use mathlib.Core.Logic.{◌⊎◌, inl, inr, ⊎_elim}
use Prim.Native.Nat.{ℕ, ◌/◌, ◌<◌}
use native.Mathlib.Omega.{arith}
use lib.Dec.{T}
use lib.ListN.{get_or, set, replicate}
use lib.Seq.{set-get_or}
use borrow.Author.Tests.{ne_eqb}
use Rattle.tables.specs.View.{Small}
use Rattle.access.specs.Access as access
use Rattle.access.specs.Checks.{first}
use Rattle.access.specs.Pairs.{word_at, known_at}
use Rattle.access.specs.Refusals.{number_of}
use Rattle.access.specs.declared.Refusal.{Refusal}
use Rattle.access.proofs.Access.{halves}
use Rattle.access.proofs.Refusals.{number_pos}
use Rattle.allocation.specs.Allocation.{rcid_of}
use Rattle.codes.specs.declared.AllocOp.TheVariants.{FlushRcid}
use Rattle.monitor.specs.Monitor.{Monitor, cleared, mcid_of, mon_status, mon_after, write_mon}
use Rattle.monitor.specs.Occupancy.{filled, evicted}
use Rattle.units.specs.Owners.{owner_word, flushed_owners}
use Rattle.units.specs.Counts.{emptied, refilled, flushed}
use Rattle.codes.specs.declared.Resource.TheVariants.{Capacity}
use Rattle.monitor.specs.View.{WordsAfter}
use Rattle.monitor.specs.declared.MonWords.{MonWords}
use Rattle.monitor.proofs.Steps as monitor
use Rattle.capacity_model.specs.Rules.{Setup, unit_count, block_of, mask_of, has_block, reset_masks, alloc_succeeds, owners_after}
use Rattle.capacity_model.specs.Calls.{Call, reset, fill, evict, refused, done, allowed}
use Rattle.capacity_model.specs.Claim.{is_reset}
use Rattle.capacity_model.specs.View.{Named}
use Rattle.capacity_model.specs.Model.{State, Allocation, Outcome, with_alloc, with_monitor, with_units, fill_checks, argument_checks, setup_checks, state_checks, after_reset, write_alloc, counters_after, alloc_written, write_mask, write_at, unit_filled, fill_allowed, fill_with, unit_evicted, perform, step}
use Rattle.runs.proofs.Checks.{step_failed, step_refused, step_done, reset_failed, reset_done}
use Rattle.capacity_model.proofs.Steps.{checking, fill_named}
use Rattle.capacity_masks.specs.Words.{pair_of, AllocAfter}
use Rattle.capacity_masks.specs.declared.AllocWords.{AllocWords}
use Rattle.capacity.specs.View.{outcome}
use Rattle.capacity.specs.Checked.{Passed, WordsIn, FillAnswered}
use Rattle.capacity.proofs.Checks.{passing}

-- ---- refused or performed

module _ (s : State) (c : Call) (n : T (not (is_reset c))) where
  pub call_failed : (r : Refusal) → number_of r ≡ first (state_checks s) 0 → outcome (refused (number_of r)) s ≡ step s c
  call_failed r e = step_failed checking perform refused s c n (number_of r) (number_pos r) (sym e)

  module _ (p : 0 ≡ first (state_checks s) 0) where
    pub call_refused : (r : Refusal) → number_of r ≡ first (argument_checks s.setup c) 0 → outcome (refused (number_of r)) s ≡ step s c
    call_refused r e = step_refused checking perform refused s c n (passing s p) (number_of r) (number_pos r) (sym e)

    pub call_done : 0 ≡ first (argument_checks s.setup c) 0 → (o : Outcome) → o ≡ perform s c → o ≡ step s c
    call_done e o q = q ∙ step_done checking perform refused s c n (passing s p) (sym e)

module _ (s : State) (su : Setup) where
  pub reset_refused : (r : Refusal) → number_of r ≡ first (setup_checks su s) 0 → outcome (refused (number_of r)) s ≡ step s (reset su)
  reset_refused r e = reset_failed checking perform refused s su (number_of r) (number_pos r) (sym e)

  pub reset_performed : 0 ≡ first (setup_checks su s) 0 → (masks counters events owners : List ℕ) → masks ≡ reset_masks su → counters ≡ replicate su.nm 0 → events ≡ replicate su.nm 0
      → owners ≡ replicate (unit_count su) 0
      → outcome done (record { setup = su; alloc = record { ctl = 0; mask = 0; masks = masks }; monitor = record { ctl = 0; value = 0; counters = counters; events = events }; owners = owners }) ≡ step s (reset su)
  unfolding perform after_reset cleared
  reset_performed e masks counters events owners m k v o = rw (m, k, v, o) (reset_done checking perform refused s su (sym e))

-- ---- words put back as they were

kept : (t : List ℕ) (i w : ℕ) → w ≡ get_or t i 0 → set t i w ≡ t
kept t i w e = ap (λ (x : ℕ). set t i x) e ∙ set-get_or t i 0

-- ---- writes

module _ (s : State) (size offset v : ℕ) where
  -- the units are flushed where the operation does that
  write_alloc_at : (a : Allocation) (b : Bool) → offset ≡ 24 → a ≡ write_alloc s.setup s.alloc.mask s.alloc.masks v → b ≡ alloc_succeeds s.setup s.alloc.mask FlushRcid v
      → with_units (with_alloc s a) (cond b (flushed_owners (rcid_of v) s.owners) s.owners) (cond b (flushed 0 s.monitor.events evicted (rcid_of v) s.owners s.monitor.counters) s.monitor.counters)
      ≡ write_at s size offset v
  unfolding write_at alloc_written owners_after counters_after
  write_alloc_at a b e q f = rw (e, q, f) refl

  write_mask_at : (w m : ℕ) → (offset ≡ 32) ⊎ (offset ≡ 36) → w ≡ access.replaced size offset s.alloc.mask v → m ≡ mask_of s.setup w
      → record { setup = s.setup; alloc = record { ctl = s.alloc.ctl; mask = m; masks = s.alloc.masks }; monitor = s.monitor; owners = s.owners } ≡ write_at s size offset v
  unfolding write_at write_mask
  write_mask_at w m e q r =
      let inside : offset / 8 ≡ 4 = ⊎_elim (λ (h : offset ≡ 32). rw h refl) (λ (h : offset ≡ 36). rw h refl) e in
      let other : offset ≡ 24 → ⊥ = λ h. ⊎_elim (λ (k : offset ≡ 32). omega arith) (λ (k : offset ≡ 36). omega arith) e in
      rw (r, q, inside, ne_eqb offset 24 other) refl

  write_mon_at : (st : ℕ) (m : Monitor) → offset ≡ 8 → Small (mon_status s.setup.na s.setup.nm Capacity v) 5 st → m ≡ mon_after s.setup.na st s.monitor v
      → with_monitor s m ≡ write_at s size offset v
  unfolding write_at write_mon
  write_mon_at st m e g q = rw (e, q, g.is) refl

  write_none : first (access.write_checks access.registers_end size offset v) 0 ≡ 0 → (offset ≡ 24 → ⊥) → ((offset ≡ 32) ⊎ (offset ≡ 36) → ⊥) → (offset ≡ 8 → ⊥) → s ≡ write_at s size offset v
  unfolding write_at
  write_none w a b c =
      let outside : offset / 8 ≡ 4 → ⊥ = λ e. halves size offset v 4 w e (λ h. b (inl h)) (λ h. b (inr h)) in
      rw (ne_eqb offset 24 a, ne_eqb (offset / 8) 4 outside, ne_eqb offset 8 c) refl

-- on the words that the value names
module _ (s : State) (size offset v mask counter setting : ℕ) (n : WordsIn s v mask counter setting) where
  masks_kept : set s.alloc.masks (pair_of s.setup v) mask ≡ s.alloc.masks
  masks_kept = kept s.alloc.masks (pair_of s.setup v) mask n.mask_is

  counters_kept : set s.monitor.counters (mcid_of v) counter ≡ s.monitor.counters
  counters_kept = kept s.monitor.counters (mcid_of v) counter n.monitor_is.counter_is

  events_kept : set s.monitor.events (mcid_of v) setting ≡ s.monitor.events
  events_kept = kept s.monitor.events (mcid_of v) setting n.monitor_is.setting_is

  -- the state with these words and control registers, flushed or not
  abbrev left : ℕ → ℕ → ℕ → ℕ → ℕ → ℕ → ℕ → Bool → State
  left ctl value alloc operand m k e b =
      let counters = set s.monitor.counters (mcid_of v) k in
      let events = set s.monitor.events (mcid_of v) e in
      record {
        setup = s.setup;
        alloc = record { ctl = alloc; mask = operand; masks = set s.alloc.masks (pair_of s.setup v) m };
        monitor = record { ctl = ctl; value = value; counters = cond b (flushed 0 events evicted (rcid_of v) s.owners counters) counters; events = events };
        owners = cond b (flushed_owners (rcid_of v) s.owners) s.owners;
      }

  pub alloc_stored : (x : AllocWords) → offset ≡ 24 → AllocAfter s.setup s.alloc.mask mask v x
      → left s.monitor.ctl s.monitor.value x.ctl x.operand x.mask counter setting x.flushes ≡ write_at s size offset v
  alloc_stored x e q = rw (counters_kept, events_kept) (write_alloc_at s size offset v _ x.flushes e (q.words s.alloc.masks n.mask_is) q.flushes_is)

  pub mask_stored : (w m : ℕ) → (offset ≡ 32) ⊎ (offset ≡ 36) → w ≡ access.replaced size offset s.alloc.mask v → m ≡ mask_of s.setup w
      → left s.monitor.ctl s.monitor.value s.alloc.ctl m mask counter setting false ≡ write_at s size offset v
  mask_stored w m e q r = rw (masks_kept, counters_kept, events_kept) (write_mask_at s size offset v w m e q r)

  pub mon_stored : (st : ℕ) (x : MonWords) → offset ≡ 8 → Small (mon_status s.setup.na s.setup.nm Capacity v) 5 st → WordsAfter s.setup.na st s.monitor.value counter setting v x
      → left x.ctl x.value s.alloc.ctl s.alloc.mask mask x.counter x.setting false ≡ write_at s size offset v
  mon_stored st x e g w =
      rw masks_kept
      (write_mon_at s size offset v st _ e g
      (monitor.wrote s.setup.na v st (mcid_of v) counter setting s.monitor _ _ x refl n.monitor_is.counter_is n.monitor_is.setting_is w refl refl))

  pub none_stored : first (access.write_checks access.registers_end size offset v) 0 ≡ 0 → (offset ≡ 24 → ⊥) → ((offset ≡ 32) ⊎ (offset ≡ 36) → ⊥) → (offset ≡ 8 → ⊥)
      → left s.monitor.ctl s.monitor.value s.alloc.ctl s.alloc.mask mask counter setting false ≡ write_at s size offset v
  none_stored w a b c = rw (masks_kept, counters_kept, events_kept) (write_none s size offset v w a b c)

-- the words at the places that the value names
pub words_in : (s : State) (v p i mask counter setting : ℕ) → p ≡ pair_of s.setup v → i ≡ mcid_of v → mask ≡ get_or s.alloc.masks p 0 → counter ≡ get_or s.monitor.counters i 0
    → setting ≡ get_or s.monitor.events i 0 → WordsIn s v mask counter setting
words_in s v p i mask counter setting a b m k e = record { mask_is = rw (← a) m; monitor_is = record { counter_is = rw (← b) k; setting_is = rw (← b) e } }

-- ---- cache events

module _ (s : State) (rcid mcid at unit : ℕ) (p : Passed s) where
  pub fill_refused : (r : Refusal) → number_of r ≡ first (fill_checks s.setup rcid mcid unit) 0 → FillAnswered s rcid mcid at unit (Err r)
  unfolding argument_checks
  fill_refused r e = record { answers = call_refused s (fill rcid mcid at unit) tt p r e; named = tt }

  -- by the mask of its pair
  module _ (e : 0 ≡ first (fill_checks s.setup rcid mcid unit) 0) (mask block : ℕ) (m : rcid < s.setup.nr → mask ≡ word_at s.setup.na s.alloc.masks rcid (known_at s.setup.na at))
      (k : block ≡ block_of s.setup unit) where
    there : Named s.setup rcid mcid unit
    there = fill_named s.setup rcid mcid unit (sym e)

    pub fill_answered : (b : Bool) → b ≡ has_block mask block → FillAnswered s rcid mcid at unit (Ok b)
    unfolding argument_checks perform fill_with fill_allowed
    fill_answered b h =
        let allowed_is : b ≡ fill_allowed s rcid at unit = h ∙ rw (m there.rcid_in, k) refl in
        record { answers = call_done s (fill rcid mcid at unit) tt p e _ (rw allowed_is refl); named = there }

-- the units as an allowed fill leaves them, and one that is not
module _ (s : State) (rcid mcid at unit : ℕ) (b : Bool) (f : FillAnswered s rcid mcid at unit (Ok b)) where
  pub fill_performed : b ≡ true → (known : ℕ) (owners counters : List ℕ) → known ≡ known_at s.setup.na at → owners ≡ set s.owners unit (owner_word rcid mcid known)
      → counters ≡ refilled 0 s.monitor.events (filled s.setup.w) evicted s.monitor.counters (get_or s.owners unit 0) mcid known
      → outcome (allowed b) (with_units s owners counters) ≡ step s (fill rcid mcid at unit)
  unfolding unit_filled
  fill_performed e known owners counters a o k = rw (o, k, a, ← f.answers, e) refl

  pub fill_kept : b ≡ false → outcome (allowed b) s ≡ step s (fill rcid mcid at unit)
  fill_kept e = rw (← f.answers, e) refl

pub evict_performed : (s : State) (unit : ℕ) → outcome done (unit_evicted s unit) ≡ step s (evict unit) → (owners counters : List ℕ) → owners ≡ set s.owners unit 0
    → counters ≡ emptied 0 s.monitor.events evicted s.monitor.counters (get_or s.owners unit 0) → outcome done (with_units s owners counters) ≡ step s (evict unit)
unfolding unit_evicted
evict_performed s unit e owners counters o k = rw (o, k) e
