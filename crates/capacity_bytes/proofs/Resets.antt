-- Resets on bytes.
use mathlib.Core.Path.{◌≡◌, refl, sym, ap}
use mathlib.Core.List.{List, [], ◌∷◌, ◌++◌}
use Prim.Native.Nat.{ℕ, zero, suc, ◌*◌, ◌≤◌}
use native.Mathlib.Omega.{arith}
use lib.ListN.{length, take, drop, replicate, length-replicate}
use lib.Seq.{length-take-le}
use Rattle.words.specs.Words.{bytes_of_all}
use Rattle.words.proofs.Table.{all_append, zero_bytes}
use Rattle.words.proofs.Parts.{bytes_drop}
use Rattle.access.specs.Refusals.{number_of}
use Rattle.access.specs.declared.Refusal.{Refusal}
use Rattle.access.proofs.Refusals.{number_pos}
use Rattle.replies.specs.Replies.{reply, refusal}
use Rattle.replies.proofs.Laws as laws
use Rattle.capacity_masks.proofs.Words.{reset_words, first_inside}
use Rattle.capacity_model.specs.Rules.{Setup, pairs, unit_count, all_blocks, reset_masks}
use Rattle.capacity_model.specs.Calls.{reset, done}
use Rattle.capacity_model.specs.View.{Ranges}
use Rattle.capacity_model.specs.Model.{State, step}
use Rattle.capacity.specs.View.{outcome}
use Rattle.capacity.proofs.Checks.{setup_passes}
use Rattle.capacity.proofs.Calls.{reset_performed}
use Rattle.capacity_bytes.specs.Bytes.{Lent, lent, record_of, state_of, lent_of, pointers, reply_to, setup_for, byte_refusal, step_bytes}
use Rattle.capacity_bytes.proofs.Lengths.{in_range, long, words_sized}

-- ---- the masks

take_same : (n m x : ℕ) → n ≤ m → take n (replicate m x) ≡ replicate n x
take_same zero m x h = refl
take_same (suc n) zero x h = absurd (omega arith)
take_same (suc n) (suc m) x h = ap (λ (t : List ℕ). x ∷ t) (take_same n m x (omega arith))

-- the row of RCID 0 lies in the table
module _ (su : Setup) (r : Ranges su) (t : List ℕ) (e : length t ≡ pairs su * 8) (x : ℕ) where
  pub row_long : su.na ≡ length (take su.na (replicate 8 x))
  row_long = sym (length-take-le su.na (replicate 8 x) r.na_high)

  pub row_inside : su.na * 8 ≤ length t
  row_inside = omega (arith, first_inside su r.nr_low)

  pub front_long : su.na * 8 ≡ length (take (su.na * 8) t)
  front_long = sym (length-take-le (su.na * 8) t row_inside)

  pub row_fits : length (take su.na (replicate 8 x)) * 8 ≡ length (take (su.na * 8) t)
  row_fits = rw (← row_long) front_long

-- and is stored over zeros
pub masks_reset : (su : Setup) → Ranges su → (first rest : List ℕ) → first ≡ bytes_of_all 8 (take su.na (replicate 8 (all_blocks su))) → rest ≡ replicate (pairs su * 8) 0
    → first ++ drop (su.na * 8) rest ≡ bytes_of_all 8 (reset_masks su)
masks_reset su r first rest e q =
    let zeros : List ℕ = replicate (pairs su) 0 in
    let inside : su.na ≤ length zeros = omega (arith, first_inside su r.nr_low, length-replicate {A = ℕ} (pairs su) 0) in
    rw (e, take_same su.na 8 (all_blocks su) r.na_high, q, ← zero_bytes 8 (pairs su), bytes_drop 8 su.na zeros inside, ← all_append, reset_words su r.nr_low) refl

-- ---- the call

module _ (l : Lent) (su : Setup) where
  pub reset_refused : (r : Refusal) → number_of r ≡ byte_refusal su l → refusal (number_of r) 0 l ≡ step_bytes l (reset su)
  unfolding setup_for
  reset_refused r e = laws.step_refused step pointers reply_to (λ k d. byte_refusal (setup_for k d) k) state_of l (reset su) (number_of r) e (λ z. omega (arith, number_pos r))

  -- the state after it
  abbrev fresh : State
  fresh = record {
    setup = su;
    alloc = record { ctl = 0; mask = 0; masks = reset_masks su };
    monitor = record { ctl = 0; value = 0; counters = replicate su.nm 0; events = replicate su.nm 0 };
    owners = replicate (unit_count su) 0;
  }

  pub reset_bytes : byte_refusal su l ≡ 0 → (R M N E O : List ℕ) → R ≡ bytes_of_all 8 (record_of fresh) → M ≡ bytes_of_all 8 (reset_masks su) → N ≡ replicate (length l.counters) 0
      → E ≡ replicate (length l.events) 0 → O ≡ replicate (length l.owners) 0 → reply 0 [] (lent R M N E O) ≡ step_bytes l (reset su)
  unfolding setup_for lent_of state_of
  reset_bytes z R M N E O q₁ q₂ q₃ q₄ q₅ =
      let g = long su l z in
      let o : outcome done fresh ≡ step (state_of l) (reset su) = reset_performed (state_of l) su (setup_passes su (state_of l) (in_range su l z) (words_sized su l z)) _ _ _ _ refl refl refl refl in
      laws.step_taken step pointers reply_to (λ k d. byte_refusal (setup_for k d) k) state_of l (reset su) (reply 0 [] (lent R M N E O)) z
      (laws.answered step pointers reply_to l (state_of l) (reset su) (outcome done fresh) o (reply 0 [] (lent R M N E O))
      (rw (q₁, q₂, q₃, q₄, q₅, g.counters_long, g.events_long, g.owners_long, zero_bytes 8 su.nm, zero_bytes 2 su.nm, zero_bytes 4 (unit_count su)) refl))
