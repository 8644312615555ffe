-- A call on bytes: refused by checks 1 and 2, or answered by the model's step.
use mathlib.Core.Path.{◌≡◌, refl, sym, ap, ◌∙◌}
use mathlib.Core.Bool.{not}
use mathlib.Core.List.{List}
use Prim.Native.Nat.{ℕ}
use native.Mathlib.Omega.{arith}
use lib.Dec.{T}
use Rattle.words.specs.Words.{words_of, bytes_of_all}
use Rattle.access.specs.Refusals.{number_of}
use Rattle.access.specs.declared.Refusal.{Refusal}
use Rattle.access.proofs.Refusals.{number_pos}
use Rattle.replies.specs.Replies.{refusal}
use Rattle.replies.proofs.Laws as laws
use Rattle.bandwidth_model.specs.Rules.{Setup}
use Rattle.bandwidth_model.specs.Calls.{Call, reset, read, write, request, device_request, end_window, wait, need}
use Rattle.bandwidth_model.specs.Claim.{is_reset}
use Rattle.bandwidth_model.specs.Model.{State, Outcome, step}
use Rattle.bandwidth.specs.declared.Record.{Record}
use Rattle.bandwidth.specs.View.{state}
use Rattle.bandwidth_lent.specs.Bytes.{Lent, lent, state_of, lent_of, pointers, Reply, reply_to, setup_for, byte_refusal, step_bytes}
use Rattle.bandwidth_lent.specs.View.{words_in, state_in}

-- ---- by checks 1 and 2

-- every call but a reset goes by the record's set-up
by_record : (l : Lent) (c : Call) → T (not (is_reset c)) → setup_for l c ≡ (state_of l).setup
unfolding setup_for
by_record l (reset su) t = absurd t
by_record l (read size offset) t = refl
by_record l (write size offset v) t = refl
by_record l (request rcid mcid at kind bytes) t = refl
by_record l (device_request mode word at kind bytes) t = refl
by_record l end_window t = refl
by_record l (wait rcid mcid at kind bytes) t = refl
by_record l (need rcid) t = refl

module _ (l : Lent) (c : Call) where
  pub step_refused : (why : Refusal) → number_of why ≡ byte_refusal (setup_for l c) l → refusal (number_of why) (pointers c) l ≡ step_bytes l c
  step_refused why e =
      let pos = number_pos why in
      laws.step_refused step pointers reply_to (λ k d. byte_refusal (setup_for k d) k) state_of l c (number_of why) e (λ z. omega arith)

  -- a refusal of a call that goes by the record
  pub refused_by : T (not (is_reset c)) → (why : Refusal) → number_of why ≡ byte_refusal (state_of l).setup l → refusal (number_of why) (pointers c) l ≡ step_bytes l c
  refused_by t why e = step_refused why (e ∙ ap (λ (su : Setup). byte_refusal su l) (sym (by_record l c t)))

-- ---- by the model's step

-- the state that the bytes hold
pub state_held : (l : Lent) (r : Record) → words_in r ≡ words_of 8 12 l.«record» → state_in l r ≡ state_of l
unfolding state_of
state_held l r h = rw (← h) refl

module _ (l : Lent) (r : Record) (w : words_in r ≡ words_of 8 12 l.«record») (z : byte_refusal (state_of l).setup l ≡ 0) (c : Call) (t : T (not (is_reset c))) where
  -- what answers the model's outcome answers the call
  pub answered : (o : Outcome) → o ≡ step (state_in l r) c → (p : Reply) → p ≡ reply_to l (pointers c) o.answer o.state → p ≡ step_bytes l c
  answered o e p q =
      laws.step_taken step pointers reply_to (λ k d. byte_refusal (setup_for k d) k) state_of l c p (ap (λ (su : Setup). byte_refusal su l) (by_record l c t) ∙ z)
      (laws.answered step pointers reply_to l (state_of l) c o (e ∙ ap (λ (s : State). step s c) (state_held l r w)) p q)

-- bytes that are those of a record's words and of the words of each table
pub same_bytes : (r : Record) (a c u n e w R A C U N E W : List ℕ) → R ≡ bytes_of_all 8 (words_in r) → A ≡ bytes_of_all 4 a → C ≡ bytes_of_all 4 c → U ≡ bytes_of_all 4 u
    → N ≡ bytes_of_all 8 n → E ≡ bytes_of_all 2 e → W ≡ bytes_of_all 8 w → lent R A C U N E W ≡ lent_of (state r a c u n e w)
unfolding lent_of
same_bytes r a c u n e w R A C U N E W p q₁ q₂ q₃ q₄ q₅ q₆ = rw (p, q₁, q₂, q₃, q₄, q₅, q₆) refl
