-- A call on bytes: refused by checks 1 to 3, or answered by the model's step on the words that the bytes hold.
use Rattle.std.specs.Prelude.{Result, Ok, Err}
use mathlib.Core.Path.{◌≡◌, refl, sym, ap, ◌∙◌}
use mathlib.Core.Bool.{Bool, true, false, not, cond}
use mathlib.Core.List.{List, [], ◌∷◌}
use Prim.Native.Nat.{ℕ, ◌^◌, ◌<◌}
use native.Mathlib.Omega.{arith}
use lib.Dec.{T, lit<}
use lib.ListN.{get_or}
use Rattle.words.specs.Words.{words_of, bytes_of_all, with_word, table_of, Holds}
use Rattle.words.proofs.Held as words
use Rattle.words.proofs.Held.{put_held, held_put}
use Rattle.words.proofs.Parts.{table_held}
use Rattle.access.specs.Checks.{first}
use Rattle.access.specs.Refusals.{number_of}
use Rattle.access.specs.View.{refusal_in}
use Rattle.access.specs.declared.Refusal.{Refusal}
use Rattle.access.specs.declared.Refusal.TheVariants as why
use Rattle.access.proofs.Refusals.{number_pos}
use Rattle.replies.specs.Replies.{reply, refusal}
use Rattle.replies.proofs.Laws as laws
use Rattle.allocation.specs.Allocation.{rcid_of}
use Rattle.monitor.specs.Monitor.{mcid_of}
use Rattle.monitor.specs.Occupancy.{evicted}
use Rattle.units.specs.Owners.{flushed_owners}
use Rattle.units.specs.Counts.{flushed}
use Rattle.capacity_masks.specs.View.{setup_of}
use Rattle.capacity_masks.specs.Words.{pair_of}
use Rattle.capacity_model.specs.Rules.{Setup, pairs, unit_count}
use Rattle.capacity_model.specs.Calls.{Call, reset, read, write, fill, evict, Answer, refused, done, value, allowed}
use Rattle.capacity_model.specs.Claim.{is_reset}
use Rattle.capacity_model.specs.View.{Ranges, Sized}
use Rattle.capacity_model.specs.Model.{State, Outcome, with_units, well_formed, state_checks, step}
use Rattle.capacity_model.proofs.Setup.{ranges}
use Rattle.capacity_model.proofs.Steps.{accepting}
use Rattle.capacity.specs.declared.Record.{Record}
use Rattle.capacity.specs.declared.WriteWords.{WriteWords}
use Rattle.capacity.specs.View.{outcome, reading_of}
use Rattle.capacity.specs.Checked.{wrote}
use Rattle.capacity.proofs.Checks.{setup_passes, state_tested}
use Rattle.capacity.proofs.Calls.{call_failed}
use Rattle.capacity_bytes.specs.Bytes.{Lent, lent, state_of, lent_of, Reply, pointers, reply_to, setup_for, byte_refusal, step_bytes}
use Rattle.capacity_bytes.specs.View.{number_in, values_in, words_in, state_in, HeldIn}
use Rattle.capacity_bytes.proofs.Lengths.{in_range, long, words_sized}

-- every call but a reset goes by the record's set-up
by_record : (l : Lent) (c : Call) → T (not (is_reset c)) → setup_for l c ≡ (state_of l).setup
unfolding setup_for
by_record l (reset su) t = absurd t
by_record l (read size offset) t = refl
by_record l (write size offset v) t = refl
by_record l (fill rcid mcid at unit) t = refl
by_record l (evict unit) t = refl

-- ---- refused by checks 1 and 2

pub refused_12 : (l : Lent) (r : Refusal) → number_of r ≡ byte_refusal (state_of l).setup l → (c : Call) → T (not (is_reset c)) → refusal (number_of r) (pointers c) l ≡ step_bytes l c
refused_12 l r e c t =
    laws.step_refused step pointers reply_to (λ k d. byte_refusal (setup_for k d) k) state_of l c (number_of r) (e ∙ ap (λ (su : Setup). byte_refusal su l) (sym (by_record l c t)))
    (λ z. omega (arith, number_pos r))

-- ---- the record that the bytes hold, after checks 1 and 2

-- a call that they do not refuse
module _ (l : Lent) (r : Record) (same : state_in l r ≡ state_of l) (z : byte_refusal (state_of l).setup l ≡ 0) (c : Call) (t : T (not (is_reset c))) where
  taken : (o : Outcome) → o ≡ step (state_in l r) c → (p : Reply) → p ≡ reply_to l (pointers c) o.answer o.state → p ≡ step_bytes l c
  taken o e p q =
      laws.step_taken step pointers reply_to (λ k d. byte_refusal (setup_for k d) k) state_of l c p (ap (λ (su : Setup). byte_refusal su l) (by_record l c t) ∙ z)
      (laws.answered step pointers reply_to l (state_of l) c o (e ∙ ap (λ (s : State). step s c) same) p q)

module _ (l : Lent) (r : Record) (w : words_in r ≡ words_of 8 10 l.«record») (z : byte_refusal (state_of l).setup l ≡ 0) where
  abbrev su : Setup
  su = setup_of r.setup

  state_held : state_in l r ≡ state_of l
  unfolding state_of
  state_held = rw (← w) refl

  held_none : byte_refusal su l ≡ 0
  held_none = ap (λ (s : State). byte_refusal s.setup l) state_held ∙ z

  pub held_ranges : Ranges su
  held_ranges = ranges su (in_range su l held_none)

  pub held_sized : Sized su (table_of 8 l.masks) (table_of 8 l.counters) (table_of 2 l.events) (table_of 4 l.owners)
  held_sized = words_sized su l held_none

  -- check 3
  module _ (b : Bool) (j : b ≡ well_formed (state_in l r)) where
    tested : cond b 0 3 ≡ first (state_checks (state_in l r)) 0
    tested = state_tested (state_in l r) (setup_passes su (state_in l r) (in_range su l held_none) held_sized) b j

    pub tested_failed : b ≡ false → (c : Call) → T (not (is_reset c)) → refusal 3 (pointers c) l ≡ step_bytes l c
    tested_failed e c t =
        taken l r state_held z c t (outcome (refused 3) (state_in l r)) (call_failed (state_in l r) c t why.State (ap (λ (x : Bool). cond x 0 3) (sym e) ∙ tested)) (refusal 3 (pointers c) l) refl

    pub tested_passed : b ≡ true → ((i : ℕ) → get_or l.«record» i 0 < 256) → ((i : ℕ) → get_or l.masks i 0 < 256) → ((i : ℕ) → get_or l.counters i 0 < 256)
        → ((i : ℕ) → get_or l.events i 0 < 256) → ((i : ℕ) → get_or l.owners i 0 < 256) → HeldIn l r
    tested_passed e lr lm lc le lo =
        let g = long su l held_none in
        record {
          record_held = words.held 8 (lit< tt) l.«record» (words_in r) (words_in r) (sym g.record_long) lr w;
          masks_held = table_held 8 (pairs su) l.masks (lit< tt) g.masks_long lm;
          counters_held = table_held 8 su.nm l.counters (lit< tt) g.counters_long lc;
          events_held = table_held 2 su.nm l.events (lit< tt) g.events_long le;
          owners_held = table_held 4 (unit_count su) l.owners (lit< tt) g.owners_long lo;
          state_is = state_held;
          none = z;
          passed = ap (λ (x : Bool). cond x 0 3) (sym e) ∙ tested;
        }

-- ---- a call in a state that passes checks 1 to 3

module _ {l : Lent} {r : Record} (h : HeldIn l r) where
  same_bytes : lent_of (state_in l r) ≡ l
  unfolding lent_of
  same_bytes = rw (← h.record_held.bytes_are, ← h.masks_held.bytes_are, ← h.counters_held.bytes_are, ← h.events_held.bytes_are, ← h.owners_held.bytes_are) refl

  module _ (c : Call) (t : T (not (is_reset c))) where
    refused_keeps : (n : ℕ) (s : State) → outcome (refused n) s ≡ step (state_in l r) c → s ≡ state_in l r
    refused_keeps n s e = ap (λ (o : Outcome). o.state) e ∙ laws.keeps accepting (state_in l r) c n (sym (ap (λ (o : Outcome). o.answer) e))

    reply_is : (a : Answer) (s : State) → outcome a s ≡ step (state_in l r) c → (new : Lent) → new ≡ lent_of s
        → reply (number_in a) (values_in (pointers c) a) new ≡ reply_to l (pointers c) a s
    reply_is (refused n) s e new q = ap (λ (x : Lent). refusal n (pointers c) x) (q ∙ ap lent_of (refused_keeps n s e) ∙ same_bytes)
    reply_is done s e new q = ap (λ (x : Lent). reply 0 [] x) q
    reply_is (value v) s e new q = ap (λ (x : Lent). reply 0 (v ∷ []) x) q
    reply_is (allowed b) s e new q = ap (λ (x : Lent). reply 0 (cond b 1 0 ∷ []) x) q

    -- the answer as numbers, and the bytes of the state that is left
    pub answered : (a : Answer) (s : State) → outcome a s ≡ step (state_in l r) c → (new : Lent) → new ≡ lent_of s → (n : ℕ) (vs : List ℕ) → n ≡ number_in a → vs ≡ values_in (pointers c) a
        → reply n vs new ≡ step_bytes l c
    answered a s e new q n vs k v = taken l r h.state_is h.none c t (outcome a s) e (reply n vs new) (rw (k, v) (reply_is a s e new q))

  -- a read leaves the bytes
  pub read_bytes : l ≡ lent_of (state_in l r)
  read_bytes = sym same_bytes

  -- a cache event stores counters and owners
  pub unit_bytes : (owners counters N O : List ℕ) → N ≡ bytes_of_all 8 counters → O ≡ bytes_of_all 4 owners
      → lent l.«record» l.masks N l.events O ≡ lent_of (with_units (state_in l r) owners counters)
  unfolding lent_of
  unit_bytes owners counters N O q p = rw (q, p, ← h.record_held.bytes_are, ← h.masks_held.bytes_are, ← h.events_held.bytes_are) refl

  -- a write stores the record and the words that its value names, and flushes the units of the RCID that it names
  pub write_bytes : (su : Setup) (x : WriteWords) (v p i rcid : ℕ) (R M N E O n₁ e₁ : List ℕ) → p ≡ pair_of su v → i ≡ mcid_of v → rcid ≡ rcid_of v → x.counter < 2 ^ 64 → x.setting < 2 ^ 16
      → R ≡ bytes_of_all 8 (words_in x.«record») → M ≡ with_word 8 l.masks p x.mask → n₁ ≡ with_word 8 l.counters i x.counter → e₁ ≡ with_word 2 l.events i x.setting
      → ((os ns es : List ℕ) → Holds 4 l.owners os → Holds 8 n₁ ns → Holds 2 e₁ es
      → (O ≡ bytes_of_all 4 (cond x.flushes (flushed_owners rcid os) os)) × (N ≡ bytes_of_all 8 (cond x.flushes (flushed 0 es evicted rcid os ns) ns)))
      → E ≡ e₁ → lent R M N E O ≡ lent_of (wrote su x (table_of 8 l.masks) (table_of 8 l.counters) (table_of 2 l.events) (table_of 4 l.owners) v)
  unfolding lent_of
  write_bytes su x v p i rcid R M N E O n₁ e₁ a b d fc fs q₁ q₂ q₃ q₄ f q₅ =
      let k = held_put 8 (lit< tt) (mcid_of v) x.counter l.counters (table_of 8 l.counters) n₁ h.counters_held fc (rw (← b) q₃) in
      let e = held_put 2 (lit< tt) (mcid_of v) x.setting l.events (table_of 2 l.events) e₁ h.events_held fs (rw (← b) q₄) in
      let g = f _ _ _ h.owners_held k e in
      rw (q₁, q₂, q₅, g.0, g.1, e.bytes_are, a, d, put_held 8 (lit< tt) (pair_of su v) x.mask l.masks (table_of 8 l.masks) h.masks_held) refl

-- the number of a reading
pub reading_number : (r : Result ℕ Refusal) → refusal_in r ≡ number_in (reading_of r)
reading_number (Ok v) = refl
reading_number (Err why) = refl
