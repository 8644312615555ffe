-- A waiter on the words of its RCID, one for each AT: what it is served, and what is used then.
use Rattle.std.specs.Prelude.{◌≡◌, List, ℕ, ◌+◌, ◌^◌, ◌≤◌, ◌<◌}
use Rattle.tables.specs.Notation.{◌‼◌}
use Rattle.bandwidth_model.specs.Rules.{Setup}
use Rattle.bandwidth_model.specs.View.{Ranges}
use Rattle.bandwidth_model.specs.Calls.{Grant, grant_sum}
use Rattle.bandwidth_model.specs.Waiters.{held_word, served_of}
use Rattle.bandwidth_model.specs.Model.{spend}
use Rattle.bandwidth_grants.specs.View.{usage}
use Rattle.bandwidth_grants.specs.Grants.{holder_in}

-- g is what the holder's word gives, at most the need
pub record Served (su : Setup) (size weights word need : ℕ) (g : Grant) : Type 0 where
  pub is : g ≡ served_of su size weights word need
  pub sum : g.reserved + g.pool ≤ need

-- the set-up is in range, nothing of the row is used, and the pool's bytes fit
pub record RowOpens (su : Setup) (used : List ℕ) (pool size need : ℕ) : Type 0 where
  pub ranges : Ranges su
  pub unused : (i : ℕ) → used ‼ i ≡ 0
  pub pool_low : pool < 2 ^ 63
  pub size_low : size ≤ 2 ^ 32
  pub need_low : need < 2 ^ 32

-- the bytes served and their sum, with what is used of the row and what the pool gave then
pub record RowServed (su : Setup) (size weights : ℕ) (row used : List ℕ) (pool at need : ℕ) (left : List ℕ) (g : Grant) (sum gave : ℕ) : Type 0 where
  pub grant_is : g ≡ served_of su size weights (held_word row (holder_in row at)) need
  pub sum_is : sum ≡ grant_sum g
  pub spent : usage row left gave ≡ spend (usage row used pool) (holder_in row at) g
  pub small : sum ≤ need
