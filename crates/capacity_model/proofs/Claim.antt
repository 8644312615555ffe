-- The claims hold after any list of calls.
use mathlib.Core.Path.{◌≡◌, refl, sym, ap, ◌∙◌}
use mathlib.Core.Bool.{Bool}
use Prim.Native.Nat.{ℕ}
use lib.ListN.{get_or}
use Rattle.access.specs.Access as access
use Rattle.access.specs.Pairs.{word_at, known_at, with_setting}
use Rattle.allocation.proofs.Operations.{status_rows}
use Rattle.monitor.specs.Tally.{Tally}
use Rattle.monitor.specs.Occupancy.{evicted}
use Rattle.codes.specs.declared.Resource.TheVariants.{Capacity}
use Rattle.monitor.proofs.Operations.{mon_status_rows}
use Rattle.monitor.proofs.Tallies.{tallied_counter}
use Rattle.units.proofs.Owners.{set_free}
use Rattle.units.proofs.Counts.{emptied_free}
use Rattle.runs.specs.Runs.{step_of}
use Rattle.runs.specs.Claims.{Counted, Answering, AllRegisterReads, Statuses}
use Rattle.runs.proofs.Steps.{step_by}
use Rattle.runs.proofs.Checks.{reset_decided, answered}
use Rattle.runs.proofs.Settings.{whole_lasts}
use Rattle.runs.proofs.Registers as shared
use Rattle.runs.proofs.Numbers.{by_number}
use Rattle.capacity_model.specs.Rules.{Setup, block_of, has_block, bad_mask, limit_of}
use Rattle.capacity_model.specs.Calls.{fill, evict, allowed}
use Rattle.capacity_model.specs.Model.{State, write_alloc, fill_allowed, unit_evicted, perform}
use Rattle.capacity_model.specs.Ledger.{Ledger, Count, counter, tally}
use Rattle.capacity_model.specs.Claim.{controller, book, Claim, Claims, Counting, AllocByNumber}
use Rattle.capacity_model.proofs.Steps.{accepting, checking, allowed_is}
use Rattle.capacity_model.proofs.Invariant.{Inv}
use Rattle.capacity_model.proofs.Answers.{good_passes}
use Rattle.capacity_model.proofs.Counters.{counter_none, fits_none}
use Rattle.capacity_model.proofs.Registers.{registered, setting, invariants}

module _ (s : State) (l : Ledger) (i : Inv s l) where
  fill_is : (rcid mcid at unit : ℕ) (b : Bool) → (step_of controller s (fill rcid mcid at unit)).answer ≡ allowed b
      → b ≡ has_block (word_at l.setup.na l.masks rcid (known_at l.setup.na at)) (block_of l.setup unit)
  unfolding fill_allowed
  fill_is rcid mcid at unit b a = allowed_is s rcid mcid at unit b a ∙ rw i.same refl

  -- an eviction of a free unit
  evict_free : (unit : ℕ) → get_or l.owners unit 0 ≡ 0 → (step_of controller s (evict unit)).state ≡ s
  unfolding perform unit_evicted
  evict_free unit e =
      let own : get_or s.owners unit 0 ≡ 0 = ap (λ (k : Ledger). get_or k.owners unit 0) (sym i.same) ∙ e in
      step_by controller.refusal controller.perform controller.refused s (evict unit) (λ o. o.state ≡ s)
      (λ q. rw (own, emptied_free 0 s.monitor.events evicted s.monitor.counters, set_free s.owners unit own) refl) (λ q. refl)

  claim : Claim s l
  claim = record {
    masks = sym (ap (λ (k : Ledger). k.masks) i.same);
    reads = rw (ap (λ (k : Ledger). k.mask) i.same) (shared.reads_now registered s access.operand);
    fills = fill_is;
    owners = sym (ap (λ (k : Ledger). k.owners) i.same);
    free = evict_free;
    settings = shared.lasting registered setting (λ l. refl) (λ l s rcid at. refl) (λ w. refl) (whole_lasts (λ su. su.nr) (λ su. su.na)) s l i;
  }

pub claims : Claims
claims = record { always = shared.ledger_always registered invariants Claim claim }

pub answering : Answering controller book
answering = record {
  opens = reset_decided controller accepting checking (λ u s. refl);
  always = shared.ledger_always registered invariants _
      (λ s l i. answered controller accepting checking (λ u s. refl) s (good_passes i.good) (book.checks_by l) (λ c. sym (ap (λ (k : Ledger). book.checks_by k c) i.same)));
}

pub counting : Counting
counting = record {
  always = shared.tally_always registered invariants (Counted controller counter (λ s. s.monitor.counters))
      (λ s t k. record {
        counters = λ m h. tallied_counter counter _ s.setup counter_none (fits_none s.setup.w) k m;
        reads = rw (ap (λ (x : Tally Setup Count). x.shown) k.same) (shared.reads_now registered s access.mon_ctr_val);
      });
}

pub register_reads : AllRegisterReads controller book tally
register_reads = shared.register_reads registered invariants

pub statuses : Statuses Capacity
statuses = record { alloc = λ nr na bad v. status_rows Capacity nr na bad v; monitor = λ na nm v. mon_status_rows na nm Capacity v }

pub alloc_by_number : AllocByNumber
unfolding write_alloc
alloc_by_number su mask masks v = rw (by_number.status Capacity su.nr su.na (bad_mask mask) v, by_number.table Capacity su.nr su.na (bad_mask mask) masks (with_setting su.na masks (limit_of su mask v)) v, by_number.operand Capacity su.nr su.na (bad_mask mask) masks mask v) refl
