-- A monitor whose tables are lent as bytes.
use Rattle.std.specs.Prelude.{◌≡◌, List, ℕ}
use Rattle.words.specs.Words.{bytes_of_all}
use Rattle.monitor.specs.Monitor.{Monitor}
use Rattle.monitor.specs.declared.Registers.{Registers}

-- the registers and the bytes of the tables are those of m
pub record Stores (m : Monitor) (r : Registers) (counters events : List ℕ) : Type 0 where
  pub ctl_is : r.ctl ≡ m.ctl
  pub value_is : r.value ≡ m.value
  pub counters_are : counters ≡ bytes_of_all 8 m.counters
  pub events_are : events ≡ bytes_of_all 2 m.events
