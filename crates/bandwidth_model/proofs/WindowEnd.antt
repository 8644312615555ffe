-- What a window end leaves of the waiters and of the counters.
use mathlib.Core.Path.{◌≡◌, refl, ◌∙◌}
use mathlib.Core.List.{List}
use Prim.Native.Nat.{ℕ, suc, ◌≤◌, ◌<◌}
use native.Mathlib.Omega.{arith}
use lib.Dec.{eqb, eqb→eq}
use lib.ListN.{length, get_or, set, length-set}
use lib.Seq.{get_or-set_same, get_or-set_other}
use Rattle.fields.specs.Registers as reg
use Rattle.tables.proofs.Tests.{cases, neqb}
use Rattle.monitor.specs.Monitor.{Monitor, counted}
use Rattle.monitor.specs.Bytes.{counts_request, added}
use Rattle.codes.specs.declared.Resource.TheVariants.{Bandwidth}
use Rattle.monitor.proofs.Counters.{added_ok}
use Rattle.monitor.proofs.Monitor.{Monitored, monitored_counted}
use Rattle.bandwidth_model.specs.Rules.{Setup}
use Rattle.bandwidth_model.specs.Calls.{grant_sum}
use Rattle.bandwidth_model.specs.Waiters.{waiter_mcid, waiter_at, waiter_kind, served_word, served_at, waiters_served}
use Rattle.bandwidth_model.specs.Model.{monitor_served}
use Rattle.bandwidth_model.specs.View.{Ranges}
use Rattle.bandwidth_model.proofs.Waiters.{over_keeps}
use Rattle.bandwidth_model.proofs.WaiterWords.{WaiterFacts, served_ok, waiters_set}

below : (a b : ℕ) → a < suc b → (a ≡ b → ⊥) → a < b
below a b h d = omega arith

-- ---- the waiters

module _ (su : Setup) (table waiters : List ℕ) where
  pub waiters_served_lem : Ranges su → WaiterFacts su waiters → (n : ℕ) → WaiterFacts su (waiters_served su table waiters n)
  unfolding waiters_served
  waiters_served_lem r f =
      over_keeps _ waiters waiters (λ n words. WaiterFacts su words) f (λ n words z k. k)
      (λ n words d k. waiters_set su words n _ k (served_ok su r (get_or waiters n 0) (f.words n) (grant_sum (served_at su table waiters n))))

  module _ (rcid : ℕ) (inside : rcid < length waiters) where
    -- the word of an RCID once the waiters below n were served
    record WordAt (n : ℕ) (words : List ℕ) : Type 0 where
      long : length words ≡ length waiters
      not_yet : n ≤ rcid → get_or words rcid 0 ≡ get_or waiters rcid 0
      served : rcid < n → (get_or waiters rcid 0 ≡ 0 → ⊥) → get_or words rcid 0 ≡ served_word (get_or waiters rcid 0) (grant_sum (served_at su table waiters rcid))

    pass_one : (n : ℕ) (words : List ℕ) → get_or waiters n 0 ≡ 0 → WordAt n words → WordAt (suc n) words
    pass_one n words z k = record {
      long = k.long;
      not_yet = λ h. k.not_yet (omega arith);
      served = λ h d. k.served (below rcid n h (λ e. d (rw e z))) d;
    }

    serve_one : (n : ℕ) (words : List ℕ) → (get_or waiters n 0 ≡ 0 → ⊥) → WordAt n words
        → WordAt (suc n) (set words n (served_word (get_or waiters n 0) (grant_sum (served_at su table waiters n))))
    serve_one n words d k =
        let word = served_word (get_or waiters n 0) (grant_sum (served_at su table waiters n)) in
        record {
          long = length-set words n word ∙ k.long;
          not_yet = λ h. get_or-set_other words n rcid word 0 (λ e. omega arith) ∙ k.not_yet (omega arith);
          served = λ h w. cases (λ b. get_or (set words n word) rcid 0 ≡ served_word (get_or waiters rcid 0) (grant_sum (served_at su table waiters rcid))) (eqb rcid n)
              (λ t. let e = eqb→eq rcid n t in rw e (get_or-set_same words n word 0 (omega (arith, k.long))))
              (λ t. let o = neqb rcid n t in get_or-set_other words n rcid word 0 o ∙ k.served (below rcid n h o) w);
        }

    word_at : (n : ℕ) → WordAt n (waiters_served su table waiters n)
    unfolding waiters_served
    word_at = over_keeps _ waiters waiters WordAt (record { long = refl; not_yet = λ h. refl; served = λ h. absurd (omega arith) }) pass_one serve_one

    pub was_served : (n : ℕ) → rcid < n → (get_or waiters rcid 0 ≡ 0 → ⊥)
        → get_or (waiters_served su table waiters n) rcid 0 ≡ served_word (get_or waiters rcid 0) (grant_sum (served_at su table waiters rcid))
    was_served n h d = (word_at n).served h d

-- ---- the counters

abbrev pub MonitorGood : Setup → Monitor → Type 0
MonitorGood su m = Monitored reg.bandwidth_counter reg.bandwidth_ctr su.na su.nm Bandwidth su.w m

-- counting bytes keeps them well formed
pub count_good : (su : Setup) (m : Monitor) → su.w ≤ 62 → MonitorGood su m → (mcid at kind n : ℕ)
    → MonitorGood su (counted (counts_request (get_or m.events mcid 0) at kind) m mcid (added su.w n))
count_good su m h k mcid at kind n =
    monitored_counted reg.bandwidth_counter reg.bandwidth_ctr su.na su.nm Bandwidth su.w k (counts_request (get_or m.events mcid 0) at kind) mcid _
    (λ t. added_ok su.w n (get_or m.counters mcid 0) h)

pub monitor_served_lem : (su : Setup) (table waiters : List ℕ) (m : Monitor) → su.w ≤ 62 → MonitorGood su m → (n : ℕ) → MonitorGood su (monitor_served su table waiters m n)
unfolding monitor_served
monitor_served_lem su table waiters m h k =
    over_keeps _ waiters m (λ n x. MonitorGood su x) k (λ n x z g. g)
    (λ n x d g. count_good su x h g (waiter_mcid (get_or waiters n 0)) (waiter_at (get_or waiters n 0)) (waiter_kind (get_or waiters n 0)) _)
