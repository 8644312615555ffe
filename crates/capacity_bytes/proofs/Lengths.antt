-- Checks 1 and 2 on bytes, both ways.
use mathlib.Core.Path.{◌≡◌, refl}
use mathlib.Core.Bool.{Bool, true, false, cond}
use borrow.Author.Tests.{eq-eqb, ne_eqb}
use lib.Dec.{T, eqb, eqb→eq, lit<}
use lib.ListN.{length}
use Rattle.words.specs.Words.{table_of}
use Rattle.words.proofs.Parts.{table_length}
use Rattle.tables.proofs.Tests.{and_l, and_r}
use Rattle.replies.proofs.Laws.{by_lengths, passed}
use Rattle.capacity_model.specs.Rules.{Setup, setup_ok, pairs, unit_count}
use Rattle.capacity_model.specs.View.{Sized}
use Rattle.capacity_bytes.specs.Bytes.{Lent, record_length, bytes_fit, byte_refusal}
use Rattle.capacity_bytes.specs.View.{Long}

module _ (su : Setup) (l : Lent) where
  refusal_is : byte_refusal su l ≡ cond (eqb (length l.«record») record_length) (cond (setup_ok su) (cond (bytes_fit su l) 0 2) 1) 1
  unfolding byte_refusal
  refusal_is = by_lengths (eqb (length l.«record») record_length) (setup_ok su) (bytes_fit su l)

  pub wrong_record : (length l.«record» ≡ 80 → ⊥) → 1 ≡ byte_refusal su l
  wrong_record n = rw (refusal_is, ne_eqb (length l.«record») 80 n) refl

  pub wrong_setup : length l.«record» ≡ 80 → setup_ok su ≡ false → 1 ≡ byte_refusal su l
  wrong_setup e t = rw (refusal_is, eq-eqb (length l.«record») 80 e, t) refl

  pub lengths_tested : length l.«record» ≡ 80 → setup_ok su ≡ true → (b : Bool) → b ≡ bytes_fit su l → cond b 0 2 ≡ byte_refusal su l
  lengths_tested e t b f = rw (refusal_is, eq-eqb (length l.«record») 80 e, t, f) refl

  -- they pass
  module _ (z : byte_refusal su l ≡ 0) where
    pub in_range : T (setup_ok su)
    unfolding byte_refusal
    in_range = (passed (eqb (length l.«record») record_length) (setup_ok su) (bytes_fit su l) z).1.0

    pub long : Long su l
    unfolding byte_refusal bytes_fit
    long =
        let p = passed (eqb (length l.«record») record_length) (setup_ok su) (bytes_fit su l) z in
        let r = p.0 in
        let t = p.1.1 in
        search (eqb→eq, and_l, and_r) depth 11

    -- and so do the words that the tables hold
    pub words_sized : Sized su (table_of 8 l.masks) (table_of 8 l.counters) (table_of 2 l.events) (table_of 4 l.owners)
    words_sized = record {
      masks_long = table_length 8 (pairs su) l.masks (lit< tt) long.masks_long;
      counters_long = table_length 8 su.nm l.counters (lit< tt) long.counters_long;
      events_long = table_length 2 su.nm l.events (lit< tt) long.events_long;
      owners_long = table_length 4 (unit_count su) l.owners (lit< tt) long.owners_long;
    }
