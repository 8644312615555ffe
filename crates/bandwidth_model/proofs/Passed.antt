-- What a call that is not refused has passed.
use mathlib.Core.Path.{◌≡◌}
use Prim.Native.Nat.{ℕ, ◌<◌}
use lib.Dec.{T, leb, eqb, eqb→eq, nleb→lt}
use lib.ListN.{get_or}
use Rattle.tables.proofs.Tests.{nor_l, nor_r, not_not, neqb}
use Rattle.access.specs.Checks.{first}
use Rattle.access.proofs.Checks.{without, none_holds}
use Rattle.devices.specs.Devices.{identifiers_in, out_of_range}
use Rattle.devices.proofs.Laws.{out_of_range_by}
use Rattle.runs.proofs.Checks.{passed_own}
use Rattle.bandwidth_model.specs.Rules.{Setup}
use Rattle.bandwidth_model.specs.Calls.{request, device_request, wait}
use Rattle.bandwidth_model.specs.Model.{State, identifier_checks, wait_checks, argument_checks, refusal}
use Rattle.bandwidth_model.proofs.Steps.{checking}

known_rcid : (su : Setup) (rcid mcid n : ℕ) → T (without 0 (identifier_checks su rcid mcid n)) → first (identifier_checks su rcid mcid n) 0 ≡ 0 → rcid < su.nr
known_rcid su rcid mcid n t e =
    let f = (none_holds 0 (identifier_checks su rcid mcid n) 0 t e).0 in
    nleb→lt su.nr rcid (nor_l (leb su.nr rcid) (leb su.nm mcid) f.0)

-- a request's RCID is known
module _ (s : State) where
  pub request_passed : (rcid mcid at kind bytes : ℕ) → refusal s (request rcid mcid at kind bytes) ≡ 0 → rcid < s.setup.nr
  unfolding argument_checks
  request_passed rcid mcid at kind bytes e = known_rcid s.setup rcid _ 7 tt (passed_own checking s (request rcid mcid at kind bytes) tt e)

  pub device_passed : (mode word at kind bytes : ℕ) → refusal s (device_request mode word at kind bytes) ≡ 0 → (identifiers_in mode word).rcid < s.setup.nr
  unfolding argument_checks
  device_passed mode word at kind bytes e =
      let ids = identifiers_in mode word in
      known_rcid s.setup ids.rcid _ (out_of_range mode) (out_of_range_by mode (λ n. T (without 0 (identifier_checks s.setup 0 0 n))) tt tt)
      (passed_own checking s (device_request mode word at kind bytes) tt e)

-- a request that is put to wait has passed 7, 10 and 11
pub record Put (s : State) (rcid mcid bytes : ℕ) : Type 0 where
  pub rcid_low : rcid < s.setup.nr
  pub mcid_low : mcid < s.setup.nm
  pub free : get_or s.waiters rcid 0 ≡ 0
  pub asks : bytes ≡ 0 → ⊥

pub wait_passed : (s : State) (rcid mcid at kind bytes : ℕ) → refusal s (wait rcid mcid at kind bytes) ≡ 0 → Put s rcid mcid bytes
unfolding argument_checks
wait_passed s rcid mcid at kind bytes e =
    let word = get_or s.waiters rcid 0 in
    let f = (none_holds 0 (wait_checks s.setup s.waiters rcid mcid bytes) 0 tt (passed_own checking s (wait rcid mcid at kind bytes) tt e)).0 in
    record {
      rcid_low = nleb→lt s.setup.nr rcid (nor_l (leb s.setup.nr rcid) (leb s.setup.nm mcid) (search f));
      mcid_low = nleb→lt s.setup.nm mcid (nor_r (leb s.setup.nr rcid) (leb s.setup.nm mcid) (search f));
      free = eqb→eq word 0 (not_not (eqb word 0) (search f));
      asks = neqb bytes 0 (search f);
    }
