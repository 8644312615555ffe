-- A window's service as the code makes it: the turn of each RCID, in rising order, on the tables as the turns before it left them.
use Rattle.std.specs.Prelude.{◌≡◌, List, ℕ, zero, suc, ◌*◌, ◌^◌, ◌≤◌, ◌<◌, T, length, set, if◌then◌else◌, ◌==◌}
use Rattle.tables.specs.Notation.{◌‼◌}
use Rattle.monitor.specs.Bytes.{counts_request, added}
use Rattle.bandwidth_model.specs.Rules.{Setup, pairs, Holder, holder_of}
use Rattle.bandwidth_model.specs.View.{Ranges}
use Rattle.bandwidth_model.specs.Calls.{Grant, grant_sum}
use Rattle.bandwidth_model.specs.Waiters.{need_of, waiter_mcid, waiter_at, waiter_kind, served_word, held_word, served_of, weight_at}
use Rattle.bandwidth_model.specs.Model.{Usage, table_ok, waiters_ok, spend}
use Rattle.bandwidth_grants.specs.View.{usage}

-- used bytes, the pool's bytes, counters and waiters
pub record Tables : Type 0 where
  pub used : List ℕ
  pub pool : ℕ
  pub counters : List ℕ
  pub waiters : List ℕ

abbrev pub tables : List ℕ → ℕ → List ℕ → List ℕ → Tables
tables used pool counters waiters = record { used = used; pool = pool; counters = counters; waiters = waiters }

-- the weight of an RCID's waiter, 0 where none waits
unfoldable pub weight_in : Setup → List ℕ → List ℕ → ℕ → ℕ
weight_in su active waiters rcid = if waiters ‼ rcid == 0 then 0 else weight_at su active waiters rcid

-- the settings in force and the counter settings, the bytes of the pool and the sum of the weights
module _ (su : Setup) (active events : List ℕ) (size weights : ℕ) where
  -- the waiter with this word is served g of the holder h
  abbrev pub served_turn : Tables → ℕ → ℕ → Holder → Grant → Tables
  served_turn x rcid word h g =
      let u : Usage = spend (usage active x.used x.pool) h g in
      let counts = counts_request (events ‼ waiter_mcid word) (waiter_at word) (waiter_kind word) in
      tables u.used u.pool
      (if counts then set x.counters (waiter_mcid word) (added su.w (grant_sum g) (x.counters ‼ waiter_mcid word)) else x.counters)
      (set x.waiters rcid (served_word word (grant_sum g)))

  -- the turn of an RCID; nothing is done where none waits
  unfoldable pub turn : Tables → ℕ → Tables
  turn x rcid =
      let word = x.waiters ‼ rcid in
      let h = holder_of su active rcid (waiter_at word) in
      if word == 0 then x else served_turn x rcid word h (served_of su size weights (held_word active h) (need_of word))

  -- the turns of all RCIDs below n
  unfoldable pub turns : Tables → ℕ → Tables
  turns x zero = x
  turns x (suc n) = turn (turns x n) n

-- a table that comes into force, and waiters, which passed their checks
pub record Opens (su : Setup) (active waiters : List ℕ) : Type 0 where
  pub ranges : Ranges su
  pub active_long : length active ≡ pairs su
  pub active_ok : T (table_ok su active)
  pub waiters_long : length waiters ≡ su.nr
  pub waiters_pass : T (waiters_ok su waiters)

-- before the turn of an RCID: its own words in use and those behind them are 0, and the pool's bytes fit
pub record Ready (su : Setup) (active : List ℕ) (size : ℕ) (x : Tables) (rcid : ℕ) : Type 0 where
  pub ranges : Ranges su
  pub active_long : length active ≡ pairs su
  pub active_ok : T (table_ok su active)
  pub rcid_low : rcid < su.nr
  pub at_low : waiter_at (x.waiters ‼ rcid) < su.na
  pub used_long : length x.used ≡ pairs su
  pub unused : (i : ℕ) → rcid * su.na ≤ i → x.used ‼ i ≡ 0
  pub pool_low : x.pool < 2 ^ 63
  pub size_low : size ≤ 2 ^ 32
