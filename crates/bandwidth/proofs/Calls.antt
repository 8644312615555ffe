-- A call by its checks, and its steps, each by its own definition, put together.
use mathlib.Core.Path.{◌≡◌, refl, sym, ◌∙◌}
use mathlib.Core.Bool.{true, false, not, cond, ◌||◌}
use mathlib.Core.List.{List, [], ◌∷◌}
use Prim.Native.Nat.{ℕ, ◌-◌, ◌≤◌, ◌<◌}
use native.Mathlib.Omega.{arith}
use lib.Dec.{T, leb, eqb, lit<, nleb→lt, leb→le, le→leb}
use lib.ListN.{get_or, set}
use borrow.Author.Tests.{ne_eqb}
use Rattle.runs.proofs.Checks.{step_failed, step_refused, step_done, reset_failed, reset_done}
use Rattle.access.specs.Checks.{◌gives◌, first}
use Rattle.access.proofs.Checks.{setup_fails, lengths_fail, setup_passes}
use Rattle.access.specs.Refusals.{number_of}
use Rattle.access.proofs.Refusals.{number_pos}
use Rattle.access.specs.declared.Refusal.{Refusal}
use Rattle.access.specs.declared.Refusal.TheVariants.{Identifier}
use Rattle.access.specs.Access.{registers_end, read_checks, write_checks}
use Rattle.access.specs.Pairs.{known_at}
use Rattle.access.proofs.Pairs.{known_lt}
use Rattle.tables.specs.View.{Small}
use Rattle.tables.specs.Parts.{part, with_part, RowAt}
use Rattle.tables.proofs.Tests.{cases, nor_l, nor_r, not_in, is_true, is_false, of_true, of_false}
use Rattle.monitor.specs.Monitor.{Monitor, cleared, mon_status, mon_after, write_mon, counted}
use Rattle.monitor.specs.Bytes.{counts_request, added}
use Rattle.codes.specs.declared.Resource.TheVariants.{Bandwidth}
use Rattle.bandwidth_model.specs.Rules.{Setup, setup_ok, holder_of, bw_word}
use Rattle.bandwidth_model.specs.Calls.{Call, reset, read, write, end_window, wait, need, Grant, grant_sum, refused, done, value, granted}
use Rattle.bandwidth_model.specs.Claim.{is_reset}
use Rattle.bandwidth_model.specs.View.{Requests}
use Rattle.bandwidth_model.specs.Waiters.{need_at, put_word}
use Rattle.bandwidth_model.specs.Model.{State, with_waiters, Allocation, Usage, Outcome, lengths_ok, wait_checks, argument_checks, state_checks, read_at, opened, after_reset, after_window, grant_of, spend, serve, serve_from, requested, write_alloc, write_bw, write_at, perform, step}
use Rattle.bandwidth_model.proofs.Steps.{checking}
use Rattle.bandwidth_settings.specs.View.{Ready}
use Rattle.bandwidth_settings.specs.Rows.{Reserves}
use Rattle.bandwidth_settings.proofs.Rows.{row_reserves}
use Rattle.bandwidth_grants.specs.View.{usage}
use Rattle.bandwidth_grants.specs.Grants.{RowFits, RowGiven}
use Rattle.bandwidth_grants.proofs.Rows.{row_fits, row_granted, row_spent}
use Rattle.bandwidth_wellformed.specs.declared.Totals.{Totals}
use Rattle.bandwidth.specs.View.{outcome}
use Rattle.bandwidth.specs.Checked.{Passes, Fresh}
use Rattle.bandwidth.proofs.Checks.{passing, active_facts, usage_formed}

-- ---- refused or performed

module _ (s : State) (c : Call) (n : T (not (is_reset c))) where
  pub call_failed : (r : Refusal) → first (state_checks s) 0 ≡ number_of r → outcome (refused (number_of r)) s ≡ step s c
  call_failed r e = step_failed checking perform refused s c n (number_of r) (number_pos r) e

  module _ {t : Totals} (p : Passes s t) where
    pub call_refused : (r : Refusal) → first (argument_checks s.setup s.waiters c) 0 ≡ number_of r → outcome (refused (number_of r)) s ≡ step s c
    call_refused r e = step_refused checking perform refused s c n (passing p) (number_of r) (number_pos r) e

    pub call_done : first (argument_checks s.setup s.waiters c) 0 ≡ 0 → (o : Outcome) → o ≡ perform s c → o ≡ step s c
    call_done e o q = q ∙ step_done checking perform refused s c n (passing p) e

-- ---- each call

module _ {s : State} {t : Totals} (p : Passes s t) where
  pub read_refused : (size offset : ℕ) (why : Refusal) → number_of why ≡ first (read_checks registers_end size offset) 0 → outcome (refused (number_of why)) s ≡ step s (read size offset)
  unfolding argument_checks
  read_refused size offset why e = call_refused s (read size offset) tt p why (sym e)

  pub read_done : (size offset v : ℕ) → 0 ≡ first (read_checks registers_end size offset) 0 → v ≡ read_at s size offset → outcome (value v) s ≡ step s (read size offset)
  unfolding argument_checks perform
  read_done size offset v e q = call_done s (read size offset) tt p (sym e) _ (rw q refl)

  pub write_refused : (size offset v : ℕ) (why : Refusal) → number_of why ≡ first (write_checks registers_end size offset v) 0 → outcome (refused (number_of why)) s ≡ step s (write size offset v)
  unfolding argument_checks
  write_refused size offset v why e = call_refused s (write size offset v) tt p why (sym e)

  pub write_done : (size offset v : ℕ) (x : State) → 0 ≡ first (write_checks registers_end size offset v) 0 → x ≡ write_at s offset v → outcome done x ≡ step s (write size offset v)
  unfolding argument_checks perform
  write_done size offset v x e q = call_done s (write size offset v) tt p (sym e) _ (rw q refl)

  module _ {c : Call} {n rcid mcid at kind bytes : ℕ} (k : Requests c n rcid mcid at kind bytes) where
    pub request_unknown : (leb s.setup.nr rcid || leb s.setup.nm mcid) ≡ true → (why : Refusal) → n ≡ number_of why → outcome (refused (number_of why)) s ≡ step s c
    request_unknown e why q = call_refused s c k.no_reset p why (rw (k.checks s.setup s.waiters, e, q) refl)

    pub request_done : (leb s.setup.nr rcid || leb s.setup.nm mcid) ≡ false → (o : Outcome) → o ≡ requested s rcid mcid at kind bytes → o ≡ step s c
    request_done e o q = call_done s c k.no_reset p (rw (k.checks s.setup s.waiters, e) refl) o (q ∙ sym (k.performs s))

  pub end_done : (x : State) → x ≡ after_window s → outcome done x ≡ step s end_window
  unfolding argument_checks perform
  end_done x e = call_done s end_window tt p refl _ (rw e refl)

  module _ (rcid mcid at kind bytes : ℕ) where
    pub wait_refused : (why : Refusal) → number_of why ≡ first (wait_checks s.setup s.waiters rcid mcid bytes) 0 → outcome (refused (number_of why)) s ≡ step s (wait rcid mcid at kind bytes)
    unfolding argument_checks
    wait_refused why e = call_refused s (wait rcid mcid at kind bytes) tt p why (sym e)

    pub wait_done : {word : ℕ} {waiters : List ℕ} → 0 ≡ first (wait_checks s.setup s.waiters rcid mcid bytes) 0 → word ≡ put_word s.setup mcid at kind bytes
        → waiters ≡ set s.waiters rcid word → outcome done (with_waiters s waiters) ≡ step s (wait rcid mcid at kind bytes)
    unfolding argument_checks perform
    wait_done e f g = call_done s (wait rcid mcid at kind bytes) tt p (sym e) _ (rw (g, f) refl)

    -- what passes the checks names an MCID that is there
    pub wait_named : 0 ≡ first (wait_checks s.setup s.waiters rcid mcid bytes) 0 → mcid < s.setup.nm
    wait_named e =
        let a = leb s.setup.nr rcid in
        let b = leb s.setup.nm mcid in
        let rest = first ((not (eqb (get_or s.waiters rcid 0) 0) gives 10) ∷ (eqb bytes 0 gives 11) ∷ []) 0 in
        cases (λ x. 0 ≡ cond x 7 rest → mcid < s.setup.nm) (a || b) (λ t (z : 0 ≡ 7). absurd (omega arith)) (λ t z. nleb→lt s.setup.nm mcid (nor_r a b t)) e

  module _ (rcid : ℕ) where
    pub need_refused : s.setup.nr ≤ rcid → outcome (refused 7) s ≡ step s (need rcid)
    unfolding argument_checks
    need_refused l = call_refused s (need rcid) tt p Identifier (rw (is_true (leb s.setup.nr rcid) (le→leb s.setup.nr rcid l)) refl)

    pub need_done : {v : ℕ} → rcid < s.setup.nr → v ≡ need_at s.waiters rcid → outcome (value v) s ≡ step s (need rcid)
    unfolding argument_checks perform
    need_done l f =
        let out = leb s.setup.nr rcid in
        call_done s (need rcid) tt p (rw (is_false out (not_in out (λ t. omega (arith, leb→le s.setup.nr rcid t)))) refl) _ (rw f refl)

-- an RCID that passes check 7
pub known_rcid : (nr nm rcid mcid : ℕ) → (leb nr rcid || leb nm mcid) ≡ false → rcid < nr
known_rcid nr nm rcid mcid e = nleb→lt nr rcid (nor_l (leb nr rcid) (leb nm mcid) (of_false e))

module _ (s : State) (su : Setup) where
  pub reset_1 : false ≡ setup_ok su → outcome (refused 1) s ≡ step s (reset su)
  reset_1 e = reset_failed checking perform refused s su 1 (lit< tt) (setup_fails (setup_ok su) (lengths_ok su s) (of_false (sym e)))

  pub reset_2 : true ≡ setup_ok su → false ≡ lengths_ok su s → outcome (refused 2) s ≡ step s (reset su)
  reset_2 e f = reset_failed checking perform refused s su 2 (lit< tt) (lengths_fail (setup_ok su) (lengths_ok su s) (of_true (sym e)) (of_false (sym f)))

  pub reset_0 : true ≡ setup_ok su → true ≡ lengths_ok su s → (active configured used counters events waiters : List ℕ) → Fresh su active configured used counters events waiters
      → outcome done (record {
        setup = su;
        alloc = record { ctl = 0; bw = 0; configured = configured };
        usage = record { active = active; used = used; pool = 0 };
        monitor = record { ctl = 0; value = 0; counters = counters; events = events };
        waiters = waiters;
      }) ≡ step s (reset su)
  unfolding perform after_reset opened cleared
  reset_0 e f active configured used counters events waiters r =
      rw (r.active_is, r.configured_is, r.used_is, r.counters_are, r.events_are, r.waiters_are) (reset_done checking perform refused s su (setup_passes (setup_ok su) (lengths_ok su s) (of_true (sym e)) (of_true (sym f))))

-- ---- requests

-- a request: its AT, the bytes granted and their sum, what is used then, and the counters
serve_steps : (s : State) (rcid mcid at kind bytes a : ℕ) (x : Grant) (sum : ℕ) (u : Usage) (counters : List ℕ) → a ≡ known_at s.setup.na at
    → (let h = holder_of s.setup s.usage.active rcid a in
    let g = grant_of s.setup s.usage h bytes in
    x ≡ g → sum ≡ grant_sum x → u ≡ spend s.usage h g
    → counters ≡ cond (counts_request (get_or s.monitor.events mcid 0) a kind)
    (set s.monitor.counters mcid (added s.setup.w sum (get_or s.monitor.counters mcid 0))) s.monitor.counters
    → outcome (granted x.reserved x.pool) (record {
      setup = s.setup;
      alloc = s.alloc;
      usage = u;
      monitor = record { ctl = s.monitor.ctl; value = s.monitor.value; counters = counters; events = s.monitor.events };
      waiters = s.waiters;
    }) ≡ requested s rcid mcid at kind bytes)
unfolding requested serve_from serve counted
serve_steps s rcid mcid at kind bytes a x sum u counters e₁ e₂ e₃ e₄ e₅ = rw (e₅, e₄, e₃, e₂, e₁) refl

-- a request by the words of its RCID
module _ {s : State} {t : Totals} (p : Passes s t) {rcid a from to : ℕ} (at bytes : ℕ) (hr : rcid < s.setup.nr) (e : a ≡ known_at s.setup.na at)
    (w : RowAt s.setup.nr s.setup.na rcid from to) where
  low : a < s.setup.na
  low = rw e (known_lt s.setup.na at p.ranges.na_low)

  abbrev Given : List ℕ → Grant → ℕ → ℕ → Type 0
  Given left x sum gave =
      RowGiven s.setup t.active (part from (to - from) s.usage.active) (part from (to - from) s.usage.used) s.usage.pool a bytes left x sum gave

  pub request_fits : RowFits s.setup t.active (part from (to - from) s.usage.active) (part from (to - from) s.usage.used) s.usage.pool a bytes
  request_fits = rw p.totals.active (row_fits s.setup s.usage (active_facts p) w hr a low p.ranges (usage_formed p) bytes)

  pub serve_row : (mcid kind : ℕ) {left counters : List ℕ} {x : Grant} {sum gave : ℕ} → Given left x sum gave
      → counters ≡ cond (counts_request (get_or s.monitor.events mcid 0) a kind)
      (set s.monitor.counters mcid (added s.setup.w sum (get_or s.monitor.counters mcid 0))) s.monitor.counters
      → outcome (granted x.reserved x.pool) (record {
        setup = s.setup;
        alloc = s.alloc;
        usage = usage s.usage.active (with_part from (to - from) s.usage.used left) gave;
        monitor = record { ctl = s.monitor.ctl; value = s.monitor.value; counters = counters; events = s.monitor.events };
        waiters = s.waiters;
      }) ≡ requested s rcid mcid at kind bytes
  serve_row mcid kind {counters = counters} {x = x} {sum = sum} g c =
      let h = rw p.totals.active at g in
      serve_steps s rcid mcid at kind bytes a x sum _ counters e (row_granted s.setup s.usage (active_facts p) w hr a low p.ranges (usage_formed p) bytes h) h.sum_is
      (row_spent s.setup s.usage (active_facts p) w hr a low p.ranges (usage_formed p) bytes h) c

-- ---- writes

-- a write to alloc_ctl by the words of the RCID that it names
module _ {s : State} {t : Totals} (p : Passes s t) where
  pub ready : Ready s.setup s.alloc.configured t.configured
  ready = record { ranges = p.ranges; long = p.sized.configured_long; sum = p.totals.configured }

  pub alloc_reserves : Reserves s.setup t.configured
  alloc_reserves = row_reserves ready

module _ (s : State) (offset v : ℕ) where
  pub write_alloc_at : (a : Allocation) → offset ≡ 24 → a ≡ write_alloc s.setup s.alloc.bw s.alloc.configured v
      → record { setup = s.setup; alloc = a; usage = s.usage; monitor = s.monitor; waiters = s.waiters } ≡ write_at s offset v
  unfolding write_at
  write_alloc_at a e q = rw (e, q) refl

  pub write_bw_at : (w : ℕ) → offset ≡ 32 → w ≡ bw_word v
      → record {
        setup = s.setup;
        alloc = record { ctl = s.alloc.ctl; bw = w; configured = s.alloc.configured };
        usage = s.usage;
        monitor = s.monitor;
        waiters = s.waiters;
      } ≡ write_at s offset v
  unfolding write_at write_bw
  write_bw_at w e q = rw (e, q) refl

  pub write_mon_at : (st : ℕ) (m : Monitor) → offset ≡ 8 → Small (mon_status s.setup.na s.setup.nm Bandwidth v) 5 st → m ≡ mon_after s.setup.na st s.monitor v
      → record { setup = s.setup; alloc = s.alloc; usage = s.usage; monitor = m; waiters = s.waiters } ≡ write_at s offset v
  unfolding write_at write_mon
  write_mon_at st m e g q = rw (e, q, g.is) refl

  pub write_none : (offset ≡ 24 → ⊥) → (offset ≡ 32 → ⊥) → (offset ≡ 8 → ⊥) → s ≡ write_at s offset v
  unfolding write_at
  write_none a b c = rw (ne_eqb offset 24 a, ne_eqb offset 32 b, ne_eqb offset 8 c) refl
