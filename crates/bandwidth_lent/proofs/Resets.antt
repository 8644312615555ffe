-- Resets on bytes.
use mathlib.Core.Path.{◌≡◌, refl, sym, ap, ◌∙◌}
use mathlib.Core.List.{List, []}
use Prim.Native.Nat.{ℕ, ◌*◌}
use lib.ListN.{length, replicate}
use Rattle.tables.proofs.Tests.{is_true}
use Rattle.tables.specs.Parts.{with_part}
use Rattle.words.specs.Words.{bytes_of_all}
use Rattle.words.proofs.Table.{zero_bytes}
use Rattle.access.specs.Refusals.{number_of}
use Rattle.access.specs.declared.Refusal.{Refusal}
use Rattle.replies.specs.Replies.{reply}
use Rattle.replies.proofs.Laws as laws
use Rattle.bandwidth_setup.specs.View.{setup_of}
use Rattle.bandwidth_setup.specs.declared.Setup.{Setup}
use Rattle.bandwidth_model.specs.Rules as rules
use Rattle.bandwidth_model.specs.Rules.{setup_ok, pairs, reset_table}
use Rattle.bandwidth_model.specs.Calls.{reset}
use Rattle.bandwidth_model.specs.View.{Ranges}
use Rattle.bandwidth_model.specs.Model.{lengths_ok, step}
use Rattle.bandwidth_model.proofs.Setup.{setup_ok_lem}
use Rattle.bandwidth.specs.declared.Record.{Record}
use Rattle.bandwidth.specs.View.{reset_row}
use Rattle.bandwidth.proofs.Checks.{lengths_ok_lem}
use Rattle.bandwidth.proofs.Calls.{reset_0}
use Rattle.bandwidth.proofs.ResetTable.{reset_words}
use Rattle.bandwidth_lent.specs.Bytes.{Lent, lent, state_of, pointers, reply_to, setup_for, byte_refusal, step_bytes}
use Rattle.bandwidth_lent.specs.View.{words_in, Fresh}
use Rattle.bandwidth_lent.proofs.Lengths.{long, in_range, words_sized}
use Rattle.bandwidth_lent.proofs.Steps.{step_refused, same_bytes}

-- zeros with the words of RCID 0 stored at the front
pub reset_stored : (su : rules.Setup) → Ranges su → (row zeros new : List ℕ) → row ≡ reset_row su su.na → length row ≡ su.na → zeros ≡ replicate (pairs su * 4) 0
    → ((ws : List ℕ) → zeros ≡ bytes_of_all 4 ws → new ≡ bytes_of_all 4 (with_part 0 (length row) ws row)) → new ≡ bytes_of_all 4 (reset_table su)
reset_stored su r row zeros new e l z s =
    s (replicate (pairs su) 0) (z ∙ sym (zero_bytes 4 (pairs su))) ∙ rw (l, e) (ap (bytes_of_all 4) (reset_words su r))

abbrev pub fresh : Setup → Record
fresh setup = record { setup = setup; mon_ctl = 0; mon_ctr_val = 0; alloc_ctl = 0; bw_alloc = 0; pool = 0 }

module _ (l : Lent) (setup : Setup) where
  abbrev su : rules.Setup
  su = setup_of setup

  pub reset_refused : (why : Refusal) → number_of why ≡ byte_refusal su l → reply (number_of why) [] l ≡ step_bytes l (reset su)
  unfolding pointers setup_for
  reset_refused why e = step_refused l (reset su) why e

  pub reset_done : byte_refusal su l ≡ 0 → (R A C U N E W : List ℕ) → R ≡ bytes_of_all 8 (words_in (fresh setup)) → Fresh su A C U N E W
      → reply 0 [] (lent R A C U N E W) ≡ step_bytes l (reset su)
  unfolding state_of setup_for
  reset_done z R A C U N E W e f =
      let tables = words_sized su l (long su l z) in
      let ok = sym (is_true (setup_ok su) (setup_ok_lem su (in_range su l z))) in
      laws.step_taken step pointers reply_to (λ k d. byte_refusal (setup_for k d) k) state_of l (reset su) _ z
      (laws.answered step pointers reply_to l (state_of l) (reset su) _
      (reset_0 (state_of l) su ok (sym (is_true (lengths_ok su (state_of l)) (lengths_ok_lem su (state_of l) tables))) _ _ _ _ _ _ (record { active_is = refl; configured_is = refl; used_is = refl; counters_are = refl; events_are = refl; waiters_are = refl }))
      _ (ap (reply 0 []) (same_bytes (fresh setup) _ _ _ _ _ _ _ _ _ _ _ _ _ e f.active_is f.configured_is f.used_is f.counters_are f.events_are f.waiters_are)))
