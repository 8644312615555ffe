-- A window's service on bytes: what the words that they hold must be, and what they hold then.
use Rattle.std.specs.Prelude.{◌≡◌, List, ℕ, ◌+◌, ◌*◌, ◌≤◌, length, replicate}
use Rattle.words.specs.Words.{bytes_of_all, table_of, Holds}
use Rattle.tables.specs.Parts.{part, with_part}
use Rattle.bandwidth_model.specs.Rules.{Setup, pairs, pool_of}
use Rattle.bandwidth_model.specs.Waiters.{weights_below}
use Rattle.bandwidth_grants.specs.View.{grant_from}
use Rattle.bandwidth_grants.specs.declared.Given.{Given}
use Rattle.bandwidth_waiters.specs.Served.{RowOpens, RowServed}
use Rattle.bandwidth_waiters.specs.Turns.{Tables, tables, Opens, Ready}

-- the words of used bytes, counters and waiters
abbrev pub tables_in : List ℕ → ℕ → List ℕ → List ℕ → Tables
tables_in used pool counters waiters = tables (table_of 4 used) pool (table_of 8 counters) (table_of 8 waiters)

-- bytes of a table that comes into force and of waiters, which passed their checks
pub record Weighs (su : Setup) (active waiters : List ℕ) : Type 0 where
  pub opens : Opens su (table_of 4 active) (table_of 8 waiters)
  pub active_long : length active ≡ pairs su * 4
  pub waiters_long : length waiters ≡ su.nr * 8

-- n words of two tables from the word from on, and a waiter that is served by them
pub record ServeFits (su : Setup) (active used : List ℕ) (from n pool size need : ℕ) : Type 0 where
  pub active_in : (from + n) * 4 ≤ length active
  pub used_in : (from + n) * 4 ≤ length used
  pub opens : RowOpens su (part from n (table_of 4 used)) pool size need

-- the used words that the service leaves
pub record Served (su : Setup) (active used : List ℕ) (from n pool size weights at need : ℕ) (new : List ℕ) (r : Given) : Type 0 where
  pub left : List ℕ
  pub served : RowServed su size weights (part from n (table_of 4 active)) (part from n (table_of 4 used)) pool at need left (grant_from r.grant) r.sum r.pool
  pub bytes_are : used ≡ bytes_of_all 4 (table_of 4 used) → new ≡ bytes_of_all 4 (with_part from n (table_of 4 used) left)

-- bytes and words of the tables that a turn changes, both ways
pub record Words (u n e w : List ℕ) : Type 0 where
  pub used : Holds 4 u (table_of 4 u)
  pub counters : Holds 8 n (table_of 8 n)
  pub events : Holds 2 e (table_of 2 e)
  pub waiters : Holds 8 w (table_of 8 w)

-- before the turn of an RCID
pub record Turns (su : Setup) (active used counters events waiters : List ℕ) (size pool rcid : ℕ) : Type 0 where
  pub ready : Ready su (table_of 4 active) size (tables_in used pool counters waiters) rcid
  pub words : Words used counters events waiters
  pub active_long : length active ≡ pairs su * 4
  pub used_long : length used ≡ pairs su * 4

-- the bytes are those of x
pub record Turned (x : Tables) (used : List ℕ) (pool : ℕ) (counters waiters : List ℕ) : Type 0 where
  pub used_are : used ≡ bytes_of_all 4 x.used
  pub pool_is : pool ≡ x.pool
  pub counters_are : counters ≡ bytes_of_all 8 x.counters
  pub waiters_are : waiters ≡ bytes_of_all 8 x.waiters

-- before the turns of all: nothing is used, with the bytes of the pool and the sum of the weights
pub record Begins (su : Setup) (active used counters events waiters : List ℕ) (size weights : ℕ) : Type 0 where
  pub weighs : Weighs su active waiters
  pub words : Words used counters events waiters
  pub used_long : length used ≡ pairs su * 4
  pub unused : table_of 4 used ≡ replicate (pairs su) 0
  pub counters_long : length counters ≡ su.nm * 8
  pub size_is : size ≡ pool_of su (table_of 4 active)
  pub weights_are : weights ≡ weights_below su (table_of 4 active) (table_of 8 waiters) su.nr
