-- A device's request is the request with the identifiers that its word names, but for one number; both are requests by identifiers.
use mathlib.Core.Path.{◌≡◌, refl}
use mathlib.Core.Bool.{Bool, true, false, not, cond, ◌||◌}
use mathlib.Core.List.{[], ◌∷◌}
use Prim.Native.Nat.{ℕ}
use lib.Dec.{leb, eqb, eqb→eq}
use Rattle.tables.proofs.Tests.{cases}
use Rattle.access.specs.Checks as shared
use Rattle.access.specs.Checks.{◌gives◌, first}
use Rattle.devices.specs.declared.Identifiers.{Identifiers}
use Rattle.devices.specs.Devices.{identifiers_in, out_of_range}
use Rattle.devices.proofs.Laws.{out_of_range_by}
use Rattle.runs.specs.Runs as runs
use Rattle.bandwidth_model.specs.Rules.{setup_ok}
use Rattle.bandwidth_model.specs.Calls.{request, device_request, refused}
use Rattle.bandwidth_model.specs.Model.{State, lengths_ok, well_formed, argument_checks, checks, refusal, serve, serve_from, requested, perform, step}
use Rattle.bandwidth_model.specs.Ledger.{note_call, tally_call}
use Rattle.bandwidth_model.specs.View.{Requests}
use Rattle.bandwidth_model.specs.Claim.{as_request, number_by, answer_by, outcome_by, DeviceRequests}

module _ (mode : ℕ) where
  first_by : (a b c x : Bool) → first ((not a gives 1) ∷ (not b gives 2) ∷ (not c gives 3) ∷ (x gives out_of_range mode) ∷ []) 0
      ≡ number_by mode (first ((not a gives 1) ∷ (not b gives 2) ∷ (not c gives 3) ∷ (x gives 7) ∷ []) 0)
  unfolding number_by
  first_by false b c x = refl
  first_by true false c x = refl
  first_by true true false x = refl
  first_by true true true true = refl
  first_by true true true false = refl

  -- no refusal stays none, and a refusal one
  none_by : (n : ℕ) → eqb (number_by mode n) 0 ≡ eqb n 0
  unfolding number_by
  none_by n =
      cases (λ b. eqb (cond b (out_of_range mode) n) 0 ≡ eqb n 0) (eqb n 7) (λ t. rw (eqb→eq n 7 t) (out_of_range_by mode (λ m. eqb m 0 ≡ false) refl refl))
      (λ t. refl)

  module _ (s : State) (word at kind bytes : ℕ) where
    refusal_by : refusal s (device_request mode word at kind bytes) ≡ number_by mode (refusal s (as_request mode word at kind bytes))
    unfolding refusal checks argument_checks shared.setup_checks shared.state_checks shared.checks_of
    refusal_by =
        let ids = identifiers_in mode word in
        first_by (setup_ok s.setup) (lengths_ok s.setup s) (well_formed s) (leb s.setup.nr ids.rcid || leb s.setup.nm ids.mcid)

    performed_by : (b : Bool) (n : ℕ)
        → cond b (perform s (device_request mode word at kind bytes)) (runs.refuse refused s (number_by mode n))
        ≡ outcome_by mode (cond b (perform s (as_request mode word at kind bytes)) (runs.refuse refused s n))
    unfolding perform requested serve_from serve answer_by outcome_by
    performed_by true n = refl
    performed_by false n = refl

    same : step s (device_request mode word at kind bytes) ≡ outcome_by mode (step s (as_request mode word at kind bytes))
    unfolding runs.step
    same =
        let n = refusal s (as_request mode word at kind bytes) in
        rw (refusal_by, none_by n) (performed_by (eqb n 0) n)

pub device_requests : DeviceRequests
unfolding note_call tally_call
device_requests = record {
  same = λ s mode word at kind bytes. same mode s word at kind bytes;
  ledger = λ l mode word at kind bytes a. refl;
  tally = λ l t mode word at kind bytes a. refl;
}

-- ---- a request of either kind

pub request_is : (rcid mcid at kind bytes : ℕ) → Requests (request rcid mcid at kind bytes) 7 rcid mcid at kind bytes
unfolding argument_checks perform
request_is rcid mcid at kind bytes = record { no_reset = tt; checks = λ su waiters. refl; performs = λ s. refl }

-- a device's, by the identifiers that its word names and its refusal
pub device_is : (mode word at kind bytes : ℕ) {ids : Identifiers} {n : ℕ} → ids ≡ identifiers_in mode word → n ≡ out_of_range mode
    → Requests (device_request mode word at kind bytes) n ids.rcid ids.mcid at kind bytes
unfolding argument_checks perform
device_is mode word at kind bytes e q = rw (e, q) (record { no_reset = tt; checks = λ su waiters. refl; performs = λ s. refl })
