-- A call on bytes: refused by checks 1 to 3, or answered by the model's step.
use Rattle.std.specs.Prelude.{Result, Ok, Err}
use mathlib.Core.Path.{◌≡◌, refl, ap, ◌∙◌}
use mathlib.Core.Bool.{true, false, not, cond, ◌||◌}
use mathlib.Core.List.{List, [], ◌∷◌}
use Prim.Native.Nat.{ℕ, ◌-◌, ◌≤◌, ◌<◌}
use native.Mathlib.Omega.{arith}
use lib.Dec.{T, leb, lit<}
use lib.ListN.{get_or, set}
use Rattle.tables.specs.View.{Small}
use Rattle.tables.specs.Parts.{RowAt}
use Rattle.words.specs.Words.{bytes_of_all, with_word, table_of, Holds}
use Rattle.words.proofs.Held.{put_held}
use Rattle.access.specs.Access.{registers_end, write_checks}
use Rattle.access.specs.Checks.{first}
use Rattle.access.specs.Pairs.{known_at}
use Rattle.access.specs.Refusals.{number_of}
use Rattle.access.specs.declared.Refusal.{Refusal}
use Rattle.access.specs.View.{refusal_in}
use Rattle.devices.specs.declared.Identifiers.{Identifiers}
use Rattle.devices.specs.Devices.{identifiers_in, out_of_range}
use Rattle.monitor.specs.Monitor.{mon_status, mon_after}
use Rattle.monitor.specs.Bytes.{counts_request, added}
use Rattle.codes.specs.declared.Resource.TheVariants.{Bandwidth}
use Rattle.monitor.specs.View.{monitor_of}
use Rattle.monitor.specs.declared.Registers.{Registers}
use Rattle.monitor_bytes.specs.Monitor as monitor
use Rattle.bandwidth_settings.specs.declared.Written.{Written}
use Rattle.bandwidth_grants.specs.declared.Given.{Given}
use Rattle.replies.specs.Replies.{reply, refusal, value_in}
use Rattle.bandwidth_model.specs.Rules.{Setup, pairs, bw_word}
use Rattle.bandwidth_model.specs.Calls.{Call, read, write, request, device_request, end_window, wait, need, refused, done, value, granted}
use Rattle.bandwidth_model.specs.Claim.{is_reset}
use Rattle.bandwidth_model.specs.View.{Requests}
use Rattle.bandwidth_model.specs.Waiters.{need_at, put_word}
use Rattle.bandwidth_model.specs.Model.{State, wait_checks, write_alloc, write_at, step}
use Rattle.bandwidth_model.proofs.Devices.{request_is, device_is}
use Rattle.bandwidth_setup.specs.View.{setup_of}
use Rattle.bandwidth.specs.declared.Record.{Record}
use Rattle.bandwidth.specs.View.{outcome, reading_of}
use Rattle.bandwidth.proofs.Calls as bandwidth
use Rattle.bandwidth.proofs.Windows.{window_opens, window_went}
use Rattle.bandwidth_waiters.specs.Turns as turns
use Rattle.bandwidth_waiters.proofs.Windows.{Went}
use Rattle.bandwidth.proofs.Calls.{end_done, request_unknown, request_done, known_rcid, request_fits, serve_row, write_alloc_at, write_bw_at, write_mon_at, write_none}
use Rattle.bandwidth_lent.specs.Bytes.{Lent, lent, lent_of, pointers, step_bytes}
use Rattle.bandwidth_lent.specs.View.{words_in, state_in, Tables, Passing}
use Rattle.bandwidth_lent.specs.declared.check.Held.{Held}
use Rattle.bandwidth_lent.proofs.Steps.{answered, same_bytes}
use Rattle.bandwidth_bytes.specs.View.{Asks, GiveFits, Gave, Stores}
use Rattle.bandwidth_service.specs.Service.{Turned}

-- ---- by the model's step

module _ {l : Lent} {h : Held} (p : Passing l h) where
  abbrev s : State
  s = state_in l h.«record»

  -- the bytes of a state that is kept
  kept : l ≡ lent_of s
  kept =
      let w = p.words in
      same_bytes h.«record» _ _ _ _ _ _ _ _ _ _ _ _ _ w.«record».bytes_are w.active.bytes_are w.configured.bytes_are w.used.bytes_are w.counters.bytes_are w.events.bytes_are w.waiters.bytes_are

  module _ (c : Call) (t : T (not (is_reset c))) where
    -- a refusal by a later check
    pub refused_then : (n : ℕ) → outcome (refused n) s ≡ step s c → refusal n (pointers c) l ≡ step_bytes l c
    refused_then n e = answered l h.«record» p.record_is p.none c t _ e _ refl

    pub done_then : (x : State) (l' : Lent) → outcome done x ≡ step s c → l' ≡ lent_of x → reply 0 [] l' ≡ step_bytes l c
    done_then x l' e q = answered l h.«record» p.record_is p.none c t _ e _ (ap (reply 0 []) q)

    pub value_then : (v : ℕ) → outcome (value v) s ≡ step s c → reply 0 (v ∷ []) l ≡ step_bytes l c
    value_then v e = answered l h.«record» p.record_is p.none c t _ e _ (ap (reply 0 (v ∷ [])) kept)

    pub granted_then : (v w : ℕ) (x : State) (l' : Lent) → outcome (granted v w) x ≡ step s c → l' ≡ lent_of x → reply 0 (v ∷ w ∷ []) l' ≡ step_bytes l c
    granted_then v w x l' e q = answered l h.«record» p.record_is p.none c t _ e _ (ap (reply 0 (v ∷ w ∷ [])) q)

-- ---- a request of either kind

pub request_asks : (rcid mcid at kind bytes : ℕ) → Asks (request rcid mcid at kind bytes) 7 rcid mcid at kind bytes
unfolding pointers
request_asks rcid mcid at kind bytes = record { is = request_is rcid mcid at kind bytes; two = refl }

pub device_asks : (mode word at kind bytes : ℕ) {ids : Identifiers} {n : ℕ} → ids ≡ identifiers_in mode word → n ≡ out_of_range mode
    → Asks (device_request mode word at kind bytes) n ids.rcid ids.mcid at kind bytes
unfolding pointers
device_asks mode word at kind bytes e q = record { is = device_is mode word at kind bytes e q; two = refl }

-- ---- each call

module _ {l : Lent} {h : Held} (p : Passing l h) where
  abbrev su : Setup
  su = setup_of h.«record».setup

  abbrev tables : Tables su l.active l.configured l.used l.counters l.events l.waiters
  tables = p.long.tables

  pub read_answered : (size offset : ℕ) (r : Result ℕ Refusal) → outcome (reading_of r) (state_in l h.«record») ≡ step (state_in l h.«record») (read size offset)
      → reply (refusal_in r) (value_in r) l ≡ step_bytes l (read size offset)
  unfolding pointers
  read_answered size offset (Err why) o = refused_then p (read size offset) tt (number_of why) o
  read_answered size offset (Ok v) o = value_then p (read size offset) tt v o

  -- a window end: the configured bytes come into force, and the bytes of x are left
  pub window_ended : {x : turns.Tables} (R A U N W : List ℕ) {pool : ℕ} → R ≡ with_word 8 l.«record» 11 pool → A ≡ l.configured → Turned x U pool N W
      → Went (window_opens p.passes) (state_in l h.«record»).monitor su.nr x → reply 0 [] (lent R A l.configured U N l.events W) ≡ step_bytes l end_window
  window_ended R A U N W {pool} r a t w =
      let b = p.words in
      done_then p end_window tt _ _ (end_done p.passes _ (window_went p.passes refl w))
      (same_bytes _ _ _ _ _ _ _ _ _ _ _ _ _ _ (r ∙ put_held 8 (lit< tt) 11 pool l.«record» (words_in h.«record») b.«record» ∙ ap (λ (n : ℕ). bytes_of_all 8 (set (words_in h.«record») 11 n)) t.pool_is)
      (a ∙ b.configured.bytes_are) b.configured.bytes_are t.used_are t.counters_are b.events.bytes_are t.waiters_are)

  -- ---- requests that wait

  module _ (rcid : ℕ) where
    pub need_refused : su.nr ≤ rcid → reply 7 (0 ∷ []) l ≡ step_bytes l (need rcid)
    unfolding pointers
    need_refused e = refused_then p (need rcid) tt 7 (bandwidth.need_refused p.passes rcid e)

    pub need_done : {v : ℕ} → rcid < su.nr → v ≡ need_at (table_of 8 l.waiters) rcid → reply 0 (v ∷ []) l ≡ step_bytes l (need rcid)
    need_done {v} e q = value_then p (need rcid) tt v (bandwidth.need_done p.passes rcid e q)

  module _ (rcid mcid at kind bytes : ℕ) where
    abbrev judged : ℕ
    judged = first (wait_checks su (table_of 8 l.waiters) rcid mcid bytes) 0

    pub wait_refused : (why : Refusal) → number_of why ≡ judged → reply (number_of why) [] l ≡ step_bytes l (wait rcid mcid at kind bytes)
    unfolding pointers
    wait_refused why e = refused_then p (wait rcid mcid at kind bytes) tt (number_of why) (bandwidth.wait_refused p.passes rcid mcid at kind bytes why e)

    pub wait_done : {word : ℕ} (W : List ℕ) → 0 ≡ judged → word ≡ put_word su mcid at kind bytes → W ≡ with_word 8 l.waiters rcid word
        → reply 0 [] (lent l.«record» l.active l.configured l.used l.counters l.events W) ≡ step_bytes l (wait rcid mcid at kind bytes)
    wait_done {word} W e f g =
        let b = p.words in
        done_then p (wait rcid mcid at kind bytes) tt _ _ (bandwidth.wait_done p.passes rcid mcid at kind bytes e f refl)
        (same_bytes h.«record» _ _ _ _ _ _ _ _ _ _ _ _ _ b.«record».bytes_are b.active.bytes_are b.configured.bytes_are b.used.bytes_are b.counters.bytes_are b.events.bytes_are
        (g ∙ put_held 8 (lit< tt) rcid word l.waiters (table_of 8 l.waiters) b.waiters))

  -- ---- requests

  module _ (rcid mcid at kind bytes : ℕ) where
    pub request_unnamed : {c : Call} (why : Refusal) → Asks c (number_of why) rcid mcid at kind bytes → (leb su.nr rcid || leb su.nm mcid) ≡ true
        → reply (number_of why) (0 ∷ 0 ∷ []) l ≡ step_bytes l c
    request_unnamed {c} why k e = rw k.two at (refused_then p c k.is.no_reset (number_of why) (request_unknown p.passes k.is e why refl))

    module _ (e : (leb su.nr rcid || leb su.nm mcid) ≡ false) {a from to : ℕ} (k : a ≡ known_at su.na at) (w : RowAt su.nr su.na rcid from to) where
      -- the words of the RCID
      pub give_in : GiveFits su l.active l.used from (to - from) h.«record».pool h.totals.active a bytes
      unfolding pairs
      give_in = record {
        active_in = omega (arith, w.order, w.inside, tables.active_long);
        used_in = omega (arith, w.order, w.inside, tables.used_long);
        fits = request_fits p.passes at bytes (known_rcid su.nr su.nm rcid mcid e) k w;
      }

      pub served : {r : Given} {R U N : List ℕ} → Gave su l.active l.used from (to - from) h.«record».pool h.totals.active a bytes U r
          → R ≡ with_word 8 l.«record» 11 r.pool
          → ((ns es : List ℕ) → Holds 8 l.counters ns → Holds 2 l.events es
          → N ≡ bytes_of_all 8 (cond (counts_request (get_or es mcid 0) a kind) (set ns mcid (added su.w r.sum (get_or ns mcid 0))) ns))
          → (c : Call) (m : ℕ) → Requests c m rcid mcid at kind bytes → reply 0 (r.grant.reserved ∷ r.grant.pool ∷ []) (lent R l.active l.configured U N l.events l.waiters) ≡ step_bytes l c
      served {r} g q n c m i =
          let x = p.words in
          granted_then p c i.no_reset r.grant.reserved r.grant.pool _ _
          (request_done p.passes i e _ (serve_row p.passes at bytes (known_rcid su.nr su.nm rcid mcid e) k w mcid kind g.given refl))
          (same_bytes _ _ _ _ _ _ _ _ _ _ _ _ _ _ (q ∙ put_held 8 (lit< tt) 11 r.pool l.«record» (words_in h.«record») x.«record») x.active.bytes_are x.configured.bytes_are
          (g.bytes_are x.used.bytes_are) (n _ _ x.counters x.events) x.events.bytes_are x.waiters.bytes_are)

  -- ---- writes

  module _ (size offset v : ℕ) where
    pub write_refused : (why : Refusal) → number_of why ≡ first (write_checks registers_end size offset v) 0 → reply (number_of why) [] l ≡ step_bytes l (write size offset v)
    unfolding pointers
    write_refused why e = refused_then p (write size offset v) tt (number_of why) (bandwidth.write_refused p.passes size offset v why e)

    pub written : (r : Record) (R A C U N E W : List ℕ) → 0 ≡ first (write_checks registers_end size offset v) 0 → R ≡ bytes_of_all 8 (words_in r)
        → lent (bytes_of_all 8 (words_in r)) A C U N E W ≡ lent_of (write_at (state_in l h.«record») offset v) → reply 0 [] (lent R A C U N E W) ≡ step_bytes l (write size offset v)
    written r R A C U N E W e q b =
        done_then p (write size offset v) tt _ _ (bandwidth.write_done p.passes size offset v _ e refl) (ap (λ (x : List ℕ). lent x A C U N E W) q ∙ b)

  module _ (offset v : ℕ) where
    abbrev old : Record
    old = h.«record»

    abbrev left : State
    left = write_at (state_in l old) offset v

    pub alloc_written : {r : Written} {C : List ℕ} → offset ≡ 24 → Stores (write_alloc su old.bw_alloc (table_of 4 l.configured) v) r C
        → lent (bytes_of_all 8 (words_in (record { setup = old.setup; mon_ctl = old.mon_ctl; mon_ctr_val = old.mon_ctr_val; alloc_ctl = r.ctl; bw_alloc = r.bw; pool = old.pool })))
        l.active C l.used l.counters l.events l.waiters ≡ lent_of left
    alloc_written {r} {C} e s =
        let x = p.words in
        same_bytes _ _ _ _ _ _ _ _ _ _ _ _ _ _ refl x.active.bytes_are s.bytes_are x.used.bytes_are x.counters.bytes_are x.events.bytes_are x.waiters.bytes_are
        ∙ ap lent_of (write_alloc_at (state_in l old) offset v _ e (rw (s.ctl_is, s.bw_is) refl))

    pub bw_written : {w : ℕ} → offset ≡ 32 → w ≡ bw_word v
        → lent (bytes_of_all 8 (words_in (record { setup = old.setup; mon_ctl = old.mon_ctl; mon_ctr_val = old.mon_ctr_val; alloc_ctl = old.alloc_ctl; bw_alloc = w; pool = old.pool })))
        l.active l.configured l.used l.counters l.events l.waiters ≡ lent_of left
    bw_written {w} e q =
        let x = p.words in
        same_bytes _ _ _ _ _ _ _ _ _ _ _ _ _ _ refl x.active.bytes_are x.configured.bytes_are x.used.bytes_are x.counters.bytes_are x.events.bytes_are x.waiters.bytes_are
        ∙ ap lent_of (write_bw_at (state_in l old) offset v w e q)

    pub mon_written : {st : ℕ} {r : Registers} {N E : List ℕ} → offset ≡ 8 → Small (mon_status su.na su.nm Bandwidth v) 5 st
        → ((ns es : List ℕ) → Holds 8 l.counters ns → Holds 2 l.events es
        → monitor.Stores (mon_after su.na st (monitor_of (record { ctl = old.mon_ctl; value = old.mon_ctr_val }) ns es) v) r N E)
        → lent (bytes_of_all 8 (words_in (record { setup = old.setup; mon_ctl = r.ctl; mon_ctr_val = r.value; alloc_ctl = old.alloc_ctl; bw_alloc = old.bw_alloc; pool = old.pool })))
        l.active l.configured l.used N E l.waiters ≡ lent_of left
    mon_written e i q =
        let x = p.words in
        let s = q _ _ x.counters x.events in
        same_bytes _ _ _ _ _ _ _ _ _ _ _ _ _ _ refl x.active.bytes_are x.configured.bytes_are x.used.bytes_are s.counters_are s.events_are x.waiters.bytes_are
        ∙ ap lent_of (write_mon_at (state_in l old) offset v _ _ e i (rw (s.ctl_is, s.value_is) refl))

    pub none_written : (offset ≡ 24 → ⊥) → (offset ≡ 32 → ⊥) → (offset ≡ 8 → ⊥)
        → lent (bytes_of_all 8 (words_in old)) l.active l.configured l.used l.counters l.events l.waiters ≡ lent_of left
    none_written a b c =
        let x = p.words in
        same_bytes _ _ _ _ _ _ _ _ _ _ _ _ _ _ refl x.active.bytes_are x.configured.bytes_are x.used.bytes_are x.counters.bytes_are x.events.bytes_are x.waiters.bytes_are
        ∙ ap lent_of (write_none (state_in l old) offset v a b c)
