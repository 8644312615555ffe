-- Lent bytes as a call finds and leaves them, the code's record beside them, and what checks 1 to 3 find.
use Rattle.std.specs.Prelude.{◌≡◌, not, cond, List, [], ◌∷◌, ℕ, ◌*◌, T, length, replicate, Result, Ok, Err}
use Rattle.words.specs.Words.{table_of, Holds}
use Rattle.access.specs.Refusals.{number_of}
use Rattle.access.specs.declared.Refusal.{Refusal}
use Rattle.replies.specs.Replies.{refusal}
use Rattle.capacity_model.specs.Rules.{Setup, pairs, unit_count}
use Rattle.capacity_model.specs.Calls.{Call, Answer, refused, done, value, allowed}
use Rattle.capacity_model.specs.Claim.{is_reset}
use Rattle.capacity_model.specs.Model.{State}
use Rattle.capacity.specs.declared.Record.{Record}
use Rattle.capacity.specs.View.{state}
use Rattle.capacity.specs.Checked.{Passed}
use Rattle.capacity_bytes.specs.Bytes.{Lent, record_length, record_of, state_of, byte_refusal, pointers, step_bytes}

-- the number of an answer, and what it gives to as many pointers
abbrev pub number_in : Answer → ℕ
number_in (refused n) = n
number_in done = 0
number_in (value v) = 0
number_in (allowed b) = 0

abbrev pub values_in : ℕ → Answer → List ℕ
values_in p (refused n) = replicate p 0
values_in p done = []
values_in p (value v) = v ∷ []
values_in p (allowed b) = cond b 1 0 ∷ []

-- the words of the code's record
abbrev pub words_in : Record → List ℕ
words_in r = record_of (state r [] [] [] [])

-- the code's record with the words that lent bytes hold
abbrev pub state_in : Lent → Record → State
state_in l r = state r (table_of 8 l.masks) (table_of 8 l.counters) (table_of 2 l.events) (table_of 4 l.owners)

-- record and tables have their lengths
pub record Long (su : Setup) (l : Lent) : Type 0 where
  pub record_long : length l.«record» ≡ record_length
  pub masks_long : length l.masks ≡ pairs su * 8
  pub counters_long : length l.counters ≡ su.nm * 8
  pub events_long : length l.events ≡ su.nm * 2
  pub owners_long : length l.owners ≡ unit_count su * 4

-- r is the record that the bytes hold, and checks 1 to 3 pass
pub record HeldIn (l : Lent) (r : Record) : Type 0 where
  pub record_held : Holds 8 l.«record» (words_in r)
  pub masks_held : Holds 8 l.masks (table_of 8 l.masks)
  pub counters_held : Holds 8 l.counters (table_of 8 l.counters)
  pub events_held : Holds 2 l.events (table_of 2 l.events)
  pub owners_held : Holds 4 l.owners (table_of 4 l.owners)
  pub state_is : state_in l r ≡ state_of l
  pub none : byte_refusal (state_of l).setup l ≡ 0
  pub passed : Passed (state_in l r)

-- what checks 1 to 3 find: the record, or the refusal of every call but a reset
abbrev pub Checked : Lent → Result Record Refusal → Type 0
Checked l (Ok r) = HeldIn l r
Checked l (Err why) = (c : Call) → T (not (is_reset c)) → refusal (number_of why) (pointers c) l ≡ step_bytes l c
