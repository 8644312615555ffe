-- Checks 1 and 2 on bytes, both ways.
use mathlib.Core.Path.{◌≡◌, refl, sym, ap, ◌∙◌}
use mathlib.Core.Bool.{Bool, true, false, cond, ◌&&◌}
use Prim.Native.Nat.{ℕ, ◌*◌}
use borrow.Author.Tests.{eq-eqb, ne_eqb}
use lib.Dec.{eqb, eqb→eq, lit<}
use lib.ListN.{length}
use Rattle.words.specs.Words.{table_of}
use Rattle.words.proofs.Parts.{table_length}
use Rattle.tables.proofs.Tests.{and_l, and_r}
use Rattle.replies.proofs.Laws.{by_lengths, passed}
use Rattle.bandwidth_model.specs.Rules.{Setup, setup_ok, pairs}
use Rattle.bandwidth_model.specs.View.{Ranges, Sized}
use Rattle.bandwidth_model.proofs.Setup.{ranges}
use Rattle.bandwidth_lent.specs.Bytes.{Lent, record_length, bytes_fit, byte_refusal}
use Rattle.bandwidth_lent.specs.View.{Long}

module _ (su : Setup) (l : Lent) where
  refusal_is : byte_refusal su l ≡ cond (eqb (length l.«record») record_length) (cond (setup_ok su) (cond (bytes_fit su l) 0 2) 1) 1
  unfolding byte_refusal
  refusal_is = by_lengths (eqb (length l.«record») record_length) (setup_ok su) (bytes_fit su l)

  pub wrong_record : (length l.«record» ≡ record_length → ⊥) → 1 ≡ byte_refusal su l
  wrong_record n = rw (refusal_is, ne_eqb (length l.«record») record_length n) refl

  pub wrong_setup : length l.«record» ≡ record_length → setup_ok su ≡ false → 1 ≡ byte_refusal su l
  wrong_setup e t = rw (refusal_is, eq-eqb (length l.«record») record_length e, t) refl

  pub wrong_lengths : length l.«record» ≡ record_length → setup_ok su ≡ true → cond (bytes_fit su l) 0 2 ≡ byte_refusal su l
  wrong_lengths e t = rw (refusal_is, eq-eqb (length l.«record») record_length e, t) refl

  -- the test of the lengths, with the pairs counted before
  pub judged : {n : ℕ} {b : Bool} → length l.«record» ≡ record_length → setup_ok su ≡ true → n ≡ pairs su
      → (eqb (length l.active) (n * 4) && eqb (length l.configured) (n * 4) && eqb (length l.used) (n * 4)
      && eqb (length l.counters) (su.nm * 8) && eqb (length l.events) (su.nm * 2) && eqb (length l.waiters) (su.nr * 8)) ≡ b
      → cond b 0 2 ≡ byte_refusal su l
  unfolding bytes_fit
  judged e t p q = ap (λ (x : Bool). cond x 0 2) (sym q) ∙ rw p (wrong_lengths e t)

  -- where they pass, the tables have their lengths
  pub long : byte_refusal su l ≡ 0 → Long su l
  unfolding byte_refusal bytes_fit
  long z =
      let p = passed (eqb (length l.«record») record_length) (setup_ok su) (bytes_fit su l) z in
      let t = p.1.1 in
      record { record_long = eqb→eq (length l.«record») record_length p.0; tables = search (eqb→eq, and_l, and_r) depth 10 }

  -- and the set-up is in range
  pub in_range : byte_refusal su l ≡ 0 → Ranges su
  unfolding byte_refusal
  in_range z = ranges su (passed (eqb (length l.«record») record_length) (setup_ok su) (bytes_fit su l) z).1.0

  -- the lengths of the tables' words
  pub words_sized : Long su l → Sized su (table_of 4 l.active) (table_of 4 l.configured) (table_of 4 l.used) (table_of 8 l.counters) (table_of 2 l.events) (table_of 8 l.waiters)
  words_sized g = record {
    active_long = table_length 4 (pairs su) l.active (lit< tt) g.tables.active_long;
    configured_long = table_length 4 (pairs su) l.configured (lit< tt) g.tables.configured_long;
    used_long = table_length 4 (pairs su) l.used (lit< tt) g.tables.used_long;
    counters_long = table_length 8 su.nm l.counters (lit< tt) g.tables.counters_long;
    events_long = table_length 2 su.nm l.events (lit< tt) g.tables.events_long;
    waiters_long = table_length 8 su.nr l.waiters (lit< tt) g.tables.waiters_long;
  }
