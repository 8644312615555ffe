-- A waiter is done in time: each window end serves it at least the smaller of what it needs and what its holder reserves.
use mathlib.Core.Path.{◌≡◌, refl, sym, ap, subst, ◌∙◌}
use mathlib.Core.Bool.{not, cond}
use mathlib.Core.List.{List, [], ◌∷◌}
use Prim.Native.Nat.{ℕ, suc, ◌+◌, ◌-◌, ◌*◌, ◌≤◌, ◌<◌, min}
use native.Mathlib.Nat.{div-lt_iff_lt-mul, lt-suc_self, mul-le-mul, le_refl}
use native.Mathlib.Omega.{arith}
use lib.Dec.{T, leb, eqb, eqb→eq, leb→le, nltb→le}
use lib.ListN.{length, get_or, set}
use lib.Seq.{get_or-set_same, get_or-set_other}
use Rattle.tables.proofs.Tests.{cases, and_l, and_r, not_in, neqb, cond_no}
use Rattle.access.specs.Pairs.{known_at}
use Rattle.runs.specs.Runs.{◌answers◌, event, after, events, noting, untouched}
use Rattle.runs.proofs.Steps.{step_by, unrefused, done_step}
use Rattle.runs.proofs.Laws.{keeps_step}
use Rattle.runs.proofs.Checks.{answered}
use Rattle.runs.proofs.Registers as shared
use Rattle.bandwidth_model.specs.Rules.{Setup, reserved, holder_of}
use Rattle.bandwidth_model.specs.Calls.{Call, reset, read, write, request, device_request, end_window, wait, need, grant_sum, refused, value}
use Rattle.bandwidth_model.specs.Waiters.{need_of, waiter_at, need_at, put_word, served_word, held_word, own_part, served_of, waiter_holder, served_at, waiters_served}
use Rattle.bandwidth_model.specs.Model.{State, Outcome, with_waiters, serve, serve_from, requested, after_window, argument_checks, perform, refusal, step}
use Rattle.bandwidth_model.specs.Ledger.{Ledger, accepted, note, note_call, note_end}
use Rattle.bandwidth_model.specs.Claim.{controller}
use Rattle.bandwidth_model.specs.Deadline.{is_end, ends, ends_in, blocks_in, fails, over, Waits, Done, Deadline}
use Rattle.bandwidth_model.proofs.Setup.{ranges}
use Rattle.bandwidth_model.proofs.WaiterWords.{need_0, served_need, served_at_lem, put_need, put_at}
use Rattle.bandwidth_model.proofs.Serving.{served_below}
use Rattle.bandwidth_model.proofs.WindowEnd.{was_served}
use Rattle.bandwidth_model.proofs.Steps.{accepting, checking, write_by}
use Rattle.bandwidth_model.proofs.Passed.{Put, wait_passed}
use Rattle.bandwidth_model.proofs.Invariant.{Inv, keeps}
use Rattle.bandwidth_model.proofs.Answers.{good_passes}
use Rattle.bandwidth_model.proofs.Registers.{registered, invariants}

-- ---- what a window end serves at least

served_least : (su : Setup) (table waiters : List ℕ) (rcid r : ℕ) → r ≤ reserved (held_word table (waiter_holder su table waiters rcid))
    → min (need_at waiters rcid) (r * su.q) ≤ grant_sum (served_at su table waiters rcid)
unfolding served_at served_of grant_sum own_part
served_least su table waiters rcid r h =
    let m : r * su.q ≤ reserved (held_word table (waiter_holder su table waiters rcid)) * su.q = mul-le-mul h (le_refl su.q) in
    omega arith

-- ---- one call

-- the request of the pair waits in the state x, whose set-up is u, and needs at most m
record Waiting (u : Setup) (rcid at : ℕ) (x : State) (m : ℕ) : Type 0 where
  same : x.setup ≡ u
  at_is : (need_at x.waiters rcid ≡ 0 → ⊥) → waiter_at (get_or x.waiters rcid 0) ≡ at
  most : need_at x.waiters rcid ≤ m

module _ (u : Setup) (rcid at r : ℕ) (low : rcid < u.nr) where
  module _ {x : State} {l : Ledger} (i : Inv x l) {m : ℕ} (w : Waiting u rcid at x m) (needs : need_at x.waiters rcid ≡ 0 → ⊥) where
    -- set-up and waiters are as they were
    stays : (y : State) → y.setup ≡ x.setup → y.waiters ≡ x.waiters → Waiting u rcid at y (m - 0 * (r * u.q))
    stays y p q = record {
      same = p ∙ w.same;
      at_is = λ d. rw q (w.at_is needs);
      most = rw q (omega (arith, w.most));
    }

    -- another RCID's request is put to wait
    stays_wait : (other word : ℕ) → get_or x.waiters other 0 ≡ 0 → Waiting u rcid at (with_waiters x (set x.waiters other word)) (m - 0 * (r * u.q))
    unfolding need_at
    stays_wait other word z =
        let d : rcid ≡ other → ⊥ = λ q. needs (rw q (ap need_of z ∙ need_0)) in
        let e : get_or (set x.waiters other word) rcid 0 ≡ get_or x.waiters rcid 0 = get_or-set_other x.waiters other rcid word 0 d in
        record {
          same = w.same;
          at_is = λ k. ap waiter_at e ∙ w.at_is needs;
          most = rw e (omega (arith, w.most));
        }

    -- the blocks by the ledger's new window are those of the configured table
    blocks_are : blocks_in (note_end l).now rcid at ≡ reserved (held_word x.alloc.configured (holder_of x.setup x.alloc.configured rcid at))
    unfolding note_end blocks_in
    blocks_are =
        let su = x.setup in
        let o = served_below su x.alloc.configured x.waiters i.good.alloc.configured (ranges su i.good.setup) i.good.waiters su.nr (le_refl su.nr) in
        ap (λ (k : Ledger). blocks_in (note_end k).now rcid at) i.same ∙ rw o.same refl

    -- a window end
    ends_window : r ≤ blocks_in (note_end l).now rcid at → Waiting u rcid at (after_window x) (m - 1 * (r * u.q))
    unfolding after_window need_at waiter_holder
    ends_window b =
        let su = x.setup in
        let table = x.alloc.configured in
        let word = get_or x.waiters rcid 0 in
        let ok = i.good.waiters.words rcid in
        let range = ranges su i.good.setup in
        let here : waiter_at word ≡ at = w.at_is needs in
        let known : rcid < su.nr = rw w.same low in
        let inside : rcid < length x.waiters = rw i.good.waiters.long known in
        let g = grant_sum (served_at su table x.waiters rcid) in
        let is : get_or (waiters_served su table x.waiters su.nr) rcid 0 ≡ served_word word g
        = was_served su table x.waiters rcid inside su.nr known (λ z. needs (ap need_of z ∙ need_0)) in
        let n : need_of (served_word word g) ≡ need_of word - g = served_need su range word ok g in
        let given : min (need_of word) (r * su.q) ≤ g = served_least su table x.waiters rcid r (rw here (rw blocks_are at b)) in
        let quantum : r * u.q ≡ r * su.q = ap (λ (k : Setup). r * k.q) (sym w.same) in
        record {
          same = w.same;
          at_is = λ d. rw is (served_at_lem su range word ok g (λ z. d (rw is (n ∙ z))) ∙ here);
          most = rw is (omega (arith, n, given, quantum, w.most));
        }

    perform_next : (c : Call) → refusal x c ≡ 0 → T (not (fails r rcid at l (c answers (perform x c).answer)))
        → Waiting u rcid at (perform x c).state (m - cond (ends (c answers (perform x c).answer)) 1 0 * (r * u.q))
    unfolding perform fails ends is_end accepted noting note_call requested serve_from serve
    perform_next (reset su) e f = absurd f
    perform_next (read size offset) e f = stays x refl refl
    perform_next (write size offset v) e f =
        write_by x (λ a b c y. Waiting u rcid at y (m - 0 * (r * u.q))) offset v (stays _ refl refl) (stays _ refl refl) (stays _ refl refl) (stays x refl refl)
    perform_next (request rcid' mcid at' kind bytes) e f = stays _ refl refl
    perform_next (device_request mode word at' kind bytes) e f = stays _ refl refl
    perform_next end_window e f = ends_window (nltb→le (blocks_in (note_end l).now rcid at) r f)
    perform_next (wait rcid' mcid at' kind bytes) e f = stays_wait rcid' (put_word x.setup mcid at' kind bytes) (wait_passed x rcid' mcid at' kind bytes e).free
    perform_next (need rcid') e f = stays x refl refl

    next : (c : Call) → T (not (fails r rcid at l (event step x c)))
        → Waiting u rcid at (step x c).state (m - cond (ends (event step x c)) 1 0 * (r * u.q))
    unfolding ends accepted
    next c =
        step_by refusal perform refused x c
        (λ o. T (not (fails r rcid at l (c answers o.answer))) → Waiting u rcid at o.state (m - cond (ends (c answers o.answer)) 1 0 * (r * u.q)))
        (perform_next c) (λ t f. stays x refl refl)

  -- ---- a list of calls

  -- a read of the need is answered where nothing is needed
  reads_none : (x : State) (l : Ledger) → Inv x l → x.setup ≡ u → need_at x.waiters rcid ≡ 0 → (step x (need rcid)).answer ≡ value 0
  unfolding argument_checks perform
  reads_none x l i same none =
      let nr = x.setup.nr in
      let known : rcid < nr = rw same low in
      let checks = (answered controller accepting checking (λ u s. refl) x (good_passes i.good) _ (λ c. refl)).calls (need rcid) tt in
      let passes = checks.accepts.1 (cond_no (leb nr rcid) 7 0 (not_in (leb nr rcid) (λ t. omega (arith, known, leb→le nr rcid t)))) in
      ap (λ (o : Outcome). o.answer) (done_step accepting x (need rcid) passes) ∙ ap value none

  done_now : (cs : List Call) (x : State) (l : Ledger) {m : ℕ} → Inv x l → Waiting u rcid at x m → need_at x.waiters rcid ≡ 0 → Done x cs rcid
  unfolding after
  done_now cs x l i w z = record { until = []; rest = cs; cut = refl; reads = reads_none x l i w.same z }

  done_later : (c : Call) (cs : List Call) (x : State) → Done (step x c).state cs rcid → Done x (c ∷ cs) rcid
  unfolding after
  done_later c cs x f = record { until = c ∷ f.until; rest = f.rest; cut = ap (λ (k : List Call). c ∷ k) f.cut; reads = f.reads }

  run : (cs : List Call) (x : State) (l : Ledger) (m : ℕ) → Inv x l → Waiting u rcid at x m → T (untouched note (fails r rcid at) l (events step x cs))
      → m ≤ ends_in (events step x cs) * (r * u.q) → Done x cs rcid
  unfolding untouched events ends_in
  run [] x l m i w t h = done_now [] x l i w (omega (arith, w.most))
  run (c ∷ cs) x l m i w t h =
      let e = event step x c in
      let here = not (fails r rcid at l e) in
      let rest = untouched note (fails r rcid at) (note l e) (events step (step x c).state cs) in
      let k : ℕ = cond (ends e) 1 0 in
      let n = ends_in (events step (step x c).state cs) in
      let d : (k + n) * (r * u.q) ≡ k * (r * u.q) + n * (r * u.q) = omega arith in
      cases (λ b. Done x (c ∷ cs) rcid) (eqb (need_at x.waiters rcid) 0) (λ z. done_now (c ∷ cs) x l i w (eqb→eq (need_at x.waiters rcid) 0 z))
      (λ z. done_later c cs x
      (run cs (step x c).state (note l e) (m - k * (r * u.q)) (keeps_step accepting keeps x l i c) (next i w (neqb (need_at x.waiters rcid) 0 z) c (and_l here rest t))
      (and_r here rest t) (omega arith)))

-- ---- the theorem

over_enough : (n d k : ℕ) → 0 < d → over n d ≤ k → n ≤ k * d
unfolding over
over_enough n d k h l =
    let q = over n d in
    let b = (div-lt_iff_lt-mul h).0 (lt-suc_self q) in
    let e : suc q * d ≡ q * d + d = omega arith in
    let m : q * d ≤ k * d = mul-le-mul l (le_refl d) in
    omega (arith, b)

module _ (x : State) (l : Ledger) (i : Inv x l) (between : List Call) (rcid mcid at kind n r : ℕ) (w : Waits x l between rcid mcid at kind n r) where
  abbrev call : Call
  call = wait rcid mcid at kind n

  answers_done : T (accepted (step x call).answer)
  unfolding accepted
  answers_done = rw w.put tt

  passed : Put x rcid mcid n
  passed = wait_passed x rcid mcid at kind n (unrefused accepting x call answers_done)

  waiting : Waiting x.setup rcid (known_at x.setup.na at) (step x call).state n
  unfolding perform need_at
  waiting =
      let range = ranges x.setup i.good.setup in
      let word = put_word x.setup mcid at kind n in
      let is : get_or (set x.waiters rcid word) rcid 0 ≡ word = get_or-set_same x.waiters rcid word 0 (rw i.good.waiters.long passed.rcid_low) in
      rw (done_step accepting x call answers_done) (record {
        same = refl;
        at_is = λ d. rw is (put_at x.setup range mcid at kind n passed.mcid_low passed.asks);
        most = rw is (omega (arith, put_need x.setup range mcid at kind n passed.mcid_low));
      })

  done_within : Done (step x call).state between rcid
  done_within =
      let by_ledger : l.setup ≡ x.setup = ap (λ (k : Ledger). k.setup) i.same in
      let pos : 0 < r * x.setup.q = omega (arith, mul-le-mul w.some (ranges x.setup i.good.setup).q_low) in
      run x.setup rcid (known_at x.setup.na at) r passed.rcid_low between (step x call).state (note l (event step x call)) n (keeps_step accepting keeps x l i call) waiting
      (subst (λ (k : Setup). T (untouched note (fails r rcid (known_at k.na at)) (note l (event step x call)) (events step (step x call).state between))) by_ledger w.backed)
      (over_enough n (r * x.setup.q) _ pos (rw by_ledger at w.enough))

pub deadline : Deadline
deadline = record {
  always = shared.ledger_always registered invariants
      (λ s l. (between : List Call) (rcid mcid at kind n r : ℕ) → Waits s l between rcid mcid at kind n r → Done (step s (wait rcid mcid at kind n)).state between rcid) done_within;
}
