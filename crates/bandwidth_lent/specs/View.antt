-- Lent bytes as a call finds and leaves them, and what checks 1 to 3 find of them.
use Rattle.std.specs.Prelude.{◌≡◌, not, Result, Ok, Err, List, [], ℕ, ◌+◌, ◌*◌, ◌≤◌, T, length, replicate}
use Rattle.words.specs.Words.{words_of, bytes_of_all, table_of, Holds}
use Rattle.access.specs.Refusals.{number_of}
use Rattle.access.specs.declared.Refusal.{Refusal}
use Rattle.replies.specs.Replies.{refusal}
use Rattle.bandwidth_setup.specs.View.{setup_of}
use Rattle.bandwidth_model.specs.Rules.{Setup, pairs, reset_table}
use Rattle.bandwidth_model.specs.Calls.{Call}
use Rattle.bandwidth_model.specs.Claim.{is_reset}
use Rattle.bandwidth_model.specs.Model.{State}
use Rattle.bandwidth.specs.declared.Record.{Record}
use Rattle.bandwidth.specs.View.{state}
use Rattle.bandwidth.specs.Checked.{Passes}
use Rattle.bandwidth_lent.specs.Bytes.{Lent, record_length, record_of, state_of, pointers, byte_refusal, step_bytes}
use Rattle.bandwidth_lent.specs.declared.check.Held.{Held}

-- the words of the code's record
abbrev pub words_in : Record → List ℕ
words_in r = record_of (state r [] [] [] [] [] [])

-- the code's record with the words of the tables
abbrev pub state_in : Lent → Record → State
state_in l r = state r (table_of 4 l.active) (table_of 4 l.configured) (table_of 4 l.used) (table_of 8 l.counters) (table_of 2 l.events) (table_of 8 l.waiters)

-- each table has the bytes of its words
pub record Tables (su : Setup) (active configured used counters events waiters : List ℕ) : Type 0 where
  pub active_long : length active ≡ pairs su * 4
  pub configured_long : length configured ≡ pairs su * 4
  pub used_long : length used ≡ pairs su * 4
  pub counters_long : length counters ≡ su.nm * 8
  pub events_long : length events ≡ su.nm * 2
  pub waiters_long : length waiters ≡ su.nr * 8

-- and so does the record
pub record Long (su : Setup) (l : Lent) : Type 0 where
  pub record_long : length l.«record» ≡ record_length
  pub tables : Tables su l.active l.configured l.used l.counters l.events l.waiters

-- the tables that a reset leaves
pub record Fresh (su : Setup) (active configured used counters events waiters : List ℕ) : Type 0 where
  pub active_is : active ≡ bytes_of_all 4 (reset_table su)
  pub configured_is : configured ≡ bytes_of_all 4 (reset_table su)
  pub used_is : used ≡ bytes_of_all 4 (replicate (pairs su) 0)
  pub counters_are : counters ≡ bytes_of_all 8 (replicate su.nm 0)
  pub events_are : events ≡ bytes_of_all 2 (replicate su.nm 0)
  pub waiters_are : waiters ≡ bytes_of_all 8 (replicate su.nr 0)

-- the record and the tables are the words of the bytes, both ways
pub record Words (l : Lent) (r : Record) : Type 0 where
  pub «record» : Holds 8 l.«record» (words_in r)
  pub active : Holds 4 l.active (table_of 4 l.active)
  pub configured : Holds 4 l.configured (table_of 4 l.configured)
  pub used : Holds 4 l.used (table_of 4 l.used)
  pub counters : Holds 8 l.counters (table_of 8 l.counters)
  pub events : Holds 2 l.events (table_of 2 l.events)
  pub waiters : Holds 8 l.waiters (table_of 8 l.waiters)

-- checks 1 to 3 pass
pub record Passing (l : Lent) (h : Held) : Type 0 where
  pub record_is : words_in h.«record» ≡ words_of 8 12 l.«record»
  pub words : Words l h.«record»
  pub long : Long (setup_of h.«record».setup) l
  pub none : byte_refusal (state_of l).setup l ≡ 0
  pub passes : Passes (state_in l h.«record») h.totals

-- what they find; where one fails, every call but a reset is refused by it
abbrev pub Checked : Lent → Result Held Refusal → Type 0
Checked l (Ok h) = Passing l h
Checked l (Err why) = (c : Call) → T (not (is_reset c)) → refusal (number_of why) (pointers c) l ≡ step_bytes l c

-- ---- parts of the tables

-- n words from the word from on lie in three tables
pub record PartIn (active configured used : List ℕ) (from n : ℕ) : Type 0 where
  pub active_in : (from + n) * 4 ≤ length active
  pub configured_in : (from + n) * 4 ≤ length configured
  pub used_in : (from + n) * 4 ≤ length used

-- arrays for n words of each
pub record Loads (n : ℕ) (a c u : List ℕ) : Type 0 where
  pub a_long : length a ≡ n
  pub c_long : length c ≡ n
  pub u_long : length u ≡ n
