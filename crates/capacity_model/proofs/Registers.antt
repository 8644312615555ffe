-- What each call does to the registers and to the masks, beside what the ledger knows of them.
use mathlib.Core.Path.{◌≡◌, refl, sym, ap, subst⁻¹}
use mathlib.Core.Bool.{Bool, false, cond, ◌&&◌}
use mathlib.Core.List.{List, [], ◌∷◌}
use Prim.Native.Nat.{ℕ}
use Rattle.access.specs.Access as access
use Rattle.access.specs.Checks.{is_reset, on_write}
use Rattle.access.specs.Pairs.{Setting}
use Rattle.allocation.specs.Allocation.{alloc_word, table_after}
use Rattle.allocation.proofs.Operations.{done_pair}
use Rattle.monitor.specs.Monitor.{cleared, write_mon, mon_word}
use Rattle.monitor.specs.Tally.{Tally}
use Rattle.codes.specs.declared.Resource.TheVariants.{Capacity}
use Rattle.codes.specs.declared.AllocOp.TheVariants.{ConfigLimit}
use Rattle.runs.specs.Claims.{control_after}
use Rattle.runs.proofs.Settings as shared
use Rattle.runs.proofs.Settings.{storing, anew, none, sets_if, Settings}
use Rattle.runs.proofs.Registers.{Parts, Registered, Agrees, Invariants, status_in, mon_status_in}
use Rattle.capacity_model.specs.Rules.{pairs, bad_mask, alloc_succeeds, limit_of}
use Rattle.capacity_model.specs.Calls.{Call, kind_of}
use Rattle.capacity_model.specs.Model.{State, Allocation, registers, register, read_at, after_reset, write_alloc, alloc_written, write_mask, write_at, perform}
use Rattle.capacity_model.specs.Rules.{Setup}
use Rattle.capacity_model.specs.Ledger.{Ledger, accepted, settings_by, Count, tally}
use Rattle.capacity_model.specs.Claim.{controller, book}
use Rattle.capacity_model.proofs.Setup.{ranges}
use Rattle.capacity_model.proofs.Steps.{accepting, call_by, write_by}
use Rattle.capacity_model.proofs.Invariant.{ledger_by, Inv, keeps}
use Rattle.capacity_model.proofs.Counters.{Counts, counts_first, counts_next}

abbrev pub parts : Parts State Setup
parts = record {
  setup = λ s. s.setup;
  nr = λ su. su.nr;
  na = λ su. su.na;
  nm = λ su. su.nm;
  resource = Capacity;
  table = λ s. s.alloc.masks;
  bad = λ s v. bad_mask s.alloc.mask;
  registers = registers;
}

module _ (s : State) where
  alloc_ctl_lem : (c : Call) → (perform s c).state.alloc.ctl ≡ control_after access.alloc_ctl (λ v. alloc_word s.setup.na v 0 (status_in parts s v)) s.alloc.ctl (kind_of c)
  unfolding control_after after_reset alloc_written write_alloc write_mask
  alloc_ctl_lem =
      let word : ℕ → ℕ = λ v. alloc_word s.setup.na v 0 (status_in parts s v) in
      call_by s (λ k s'. s'.alloc.ctl ≡ control_after access.alloc_ctl word s.alloc.ctl k) (λ su. refl)
      (λ size offset v. write_by s (λ x y z t. t.alloc.ctl ≡ cond x (word v) s.alloc.ctl) size offset v refl refl refl refl)
      (λ s' k. ap (λ (a : Allocation). a.ctl) k.alloc)

  mon_ctl_lem : (c : Call) → (perform s c).state.monitor.ctl ≡ control_after access.mon_ctl (λ v. mon_word s.setup.na v 0 (mon_status_in parts s v)) s.monitor.ctl (kind_of c)
  unfolding control_after after_reset alloc_written cleared write_mon
  mon_ctl_lem =
      let word : ℕ → ℕ = λ v. mon_word s.setup.na v 0 (mon_status_in parts s v) in
      call_by s (λ k s'. s'.monitor.ctl ≡ control_after access.mon_ctl word s.monitor.ctl k) (λ su. refl)
      (λ size offset v. write_by s (λ x y z t. t.monitor.ctl ≡ cond z (word v) s.monitor.ctl) size offset v refl refl refl refl) (λ s' k. k.ctl)

pub registered : Registered controller parts
unfolding perform read_at register write_at alloc_written write_alloc accepted
registered = record {
  accepting = accepting;
  resets_kind = λ u. refl;
  writes_kind = λ size offset v. refl;
  value = λ s size offset. refl;
  value_accepted = λ v. tt;
  value_tells = λ v w e. cc;
  alloc = alloc_ctl_lem;
  mon = mon_ctl_lem;
  operand = λ s size v. refl;
}

-- ---- with the ledger

abbrev Sets : State → State → List (Setting ℕ) → Bool → Type 0
Sets = shared.Sets parts.setup (storing parts.nr parts.na) parts.table

sets_call : (s : State) (c : Call) → Sets s (perform s c).state (settings_by (ledger_by s) c) (is_reset (kind_of c))
unfolding settings_by alloc_written write_alloc write_mask table_after
sets_call s =
    let su = s.setup in
    let mask = s.alloc.mask in
    let made : ℕ → Bool → List (Setting ℕ) = λ v x. cond (x && alloc_succeeds su mask ConfigLimit v) (limit_of su mask v ∷ []) [] in
    call_by s (λ k s'. Sets s s' (on_write k (λ size offset v. made v (access.writes_low offset access.alloc_ctl)) []) (is_reset k)) (λ u. anew)
    (λ size offset v. write_by s (λ x y z t. Sets s t (made v x) false) size offset v
    (sets_if _ _ _ s _ (limit_of su mask v) (alloc_succeeds su mask ConfigLimit v) refl refl
    (λ d. let ok = done_pair Capacity su.nr su.na (bad_mask mask) v ConfigLimit d tt in (ok.rcid_low, ok.at_low)))
    (none refl refl) (none refl refl) (none refl refl))
    (λ s' k. none k.setup (ap (λ (a : Allocation). a.masks) k.alloc))

pub setting : Settings controller book Inv parts.setup (λ l. l.setup) (storing parts.nr parts.na) parts.table
unfolding pairs
setting = record {
  inv = keeps;
  same = λ s l i. sym (ap (λ (k : Ledger). k.setup) i.same);
  right = λ s l i. i.good.alloc.masks.long;
  sets = λ s l i c.
      subst⁻¹ (λ (k : Ledger). Sets s (perform s c).state (settings_by k c) (is_reset (kind_of c))) i.same (sets_call s c);
}

agreeing : (s : State) (l : Ledger) → Inv s l → Agrees controller parts book s l
unfolding settings_by
agreeing s l i =
    subst⁻¹ (λ (k : Ledger). Agrees controller parts book s k) i.same
    (record { na = refl; capabilities = refl; operand = refl; status = λ v. refl; mon = λ v. refl; value = s.alloc.mask; sets = λ size v. refl })

pub invariants : Invariants controller parts book tally Inv Counts
invariants = record {
  inv = keeps;
  first = λ s su e. counts_first s su;
  next = λ s l t i k c. counts_next s l t i.same (ranges s.setup i.good.setup).w_high k c;
  agrees = agreeing;
  shown = λ s t k. sym (ap (λ (x : Tally Setup Count). x.shown) k.same);
}
