-- Well-formed tables: check 3 without the registers and the pool; the sums of rows that it is found by.
use Rattle.std.specs.Prelude.{◌≡◌, Bool, not, ◌&&◌, Option, Some, None, List, ℕ, ◌+◌, ◌*◌, ◌^◌, ◌≤◌, ◌<◌, T, leb, length, get_or}
use Rattle.std.specs.Int.Bits.{bit_or}
use Rattle.fields.specs.Registers as reg
use Rattle.tables.specs.Below.{all_below, sum_below}
use Rattle.tables.specs.View.{union_below}
use Rattle.monitor.specs.Monitor.{counter_ok, setting_ok}
use Rattle.codes.specs.declared.Resource.TheVariants.{Bandwidth}
use Rattle.bandwidth_model.specs.Rules.{Setup, pairs, reserved, total}
use Rattle.bandwidth_model.specs.View.{Sized}
use Rattle.bandwidth_model.specs.Waiters.{waiter_ok}
use Rattle.bandwidth_model.specs.Model.{table_ok}
use Rattle.bandwidth_wellformed.specs.Bits.{form_at, blocks_at, right_at, over_at, AtMost}
use Rattle.bandwidth_wellformed.specs.declared.Totals.{Totals}
use Rattle.bandwidth_wellformed.specs.declared.settings.TableSums.{TableSums}
use Rattle.bandwidth_wellformed.specs.declared.settings.Sums.{Sums}

-- each settings table, used bytes, counters, counter settings and waiters are well formed
unfoldable pub tables_ok : Setup → List ℕ → List ℕ → List ℕ → List ℕ → List ℕ → List ℕ → Bool
tables_ok su active configured used counters events waiters =
    table_ok su active && table_ok su configured && all_below (pairs su) (λ i. leb (get_or used i 0) (reserved (get_or active i 0) * su.q))
    && all_below su.nm (λ i. counter_ok reg.bandwidth_counter reg.bandwidth_ctr su.w (get_or counters i 0))
    && all_below su.nm (λ i. setting_ok su.na Bandwidth (get_or events i 0)) && all_below su.nr (λ i. waiter_ok su (get_or waiters i 0))

-- the totals are what the two settings tables reserve
pub record Totalled (in_force stored : List ℕ) (t : Totals) : Type 0 where
  pub active : t.active ≡ total in_force
  pub configured : t.configured ≡ total stored

-- both totals, exactly where the tables are well formed
abbrev pub TablesChecked : Setup → List ℕ → List ℕ → List ℕ → List ℕ → List ℕ → List ℕ → Option Totals → Type 0
TablesChecked su in_force stored used counters events waiters (Some t) = T (tables_ok su in_force stored used counters events waiters) × Totalled in_force stored t
TablesChecked su in_force stored used counters events waiters None = T (not (tables_ok su in_force stored used counters events waiters))

-- ---- sums of rows

-- t has n rows
pub record Table (na n : ℕ) (t : List ℕ) : Type 0 where
  pub na_low : 1 ≤ na
  pub na_high : na ≤ 8
  pub long : n * na ≡ length t
  pub few : n * na ≤ 2048

-- each of the three tables has n rows
pub record Rows (na q n : ℕ) (active configured used : List ℕ) : Type 0 where
  pub na_low : 1 ≤ na
  pub na_high : na ≤ 8
  pub q_low : 1 ≤ q
  pub q_high : q ≤ 65536
  pub active_long : n * na ≡ length active
  pub configured_long : n * na ≡ length configured
  pub used_long : n * na ≡ length used
  pub few : n * na ≤ 2048

-- what the first n rows of a settings table hold: bits that may not be there, whether each row is right, and blocks
pub record TableSummed (na : ℕ) (t : List ℕ) (n : ℕ) (s : TableSums) : Type 0 where
  pub form : s.form ≡ union_below (n * na) (form_at t)
  pub rows : s.rows ≡ all_below n (right_at na t)
  pub blocks : s.blocks ≡ sum_below (n * na) (blocks_at t)

-- the same of the first n rows of three tables
pub record Summed (na q : ℕ) (in_force stored used : List ℕ) (n : ℕ) (p : Sums) : Type 0 where
  pub active : TableSummed na in_force n p.active
  pub configured : TableSummed na stored n p.configured
  pub over : p.over ≡ union_below (n * na) (over_at q in_force used)

-- the first n words of three tables are 0
pub record Zeros (n : ℕ) (active configured used : List ℕ) : Type 0 where
  pub active_none : AtMost (λ k. get_or active k 0) n 0
  pub configured_none : AtMost (λ k. get_or configured k 0) n 0
  pub used_none : AtMost (λ k. get_or used k 0) n 0

-- r is x and y together
pub record TableAdded (x y r : TableSums) : Type 0 where
  pub form : r.form ≡ bit_or x.form y.form
  pub rows : r.rows ≡ (x.rows && y.rows)
  pub blocks : r.blocks ≡ x.blocks + y.blocks

pub record Added (x y r : Sums) : Type 0 where
  pub active : TableAdded x.active y.active r.active
  pub configured : TableAdded x.configured y.configured r.configured
  pub over : r.over ≡ bit_or x.over y.over

-- the blocks of x and y fit one word
pub record SumsFit (x y : Sums) : Type 0 where
  pub active : x.active.blocks + y.active.blocks < 2 ^ 32
  pub configured : x.configured.blocks + y.configured.blocks < 2 ^ 32

-- the sums of all rows, and whether the counters, the counter settings and the waiters are well formed
pub record SummedTables (su : Setup) (in_force stored used counters events waiters : List ℕ) (sums : Sums) (counters_ok events_ok waiters_ok : Bool) : Type 0 where
  pub sized : Sized su in_force stored used counters events waiters
  pub active_fits : (i : ℕ) → get_or in_force i 0 < 4294967296
  pub configured_fits : (i : ℕ) → get_or stored i 0 < 4294967296
  pub summed : Summed su.na su.q in_force stored used su.nr sums
  pub counters_are : counters_ok ≡ all_below (length counters) (λ i. counter_ok reg.bandwidth_counter reg.bandwidth_ctr su.w (get_or counters i 0))
  pub events_are : events_ok ≡ all_below (length events) (λ i. setting_ok su.na Bandwidth (get_or events i 0))
  pub waiters_are : waiters_ok ≡ all_below (length waiters) (λ i. waiter_ok su (get_or waiters i 0))
