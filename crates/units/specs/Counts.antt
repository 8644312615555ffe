-- What fills, evictions and flushes of units count, in counts of any type: the controller's counters and a tally follow one rule.
use Rattle.std.specs.Prelude.{List, ℕ, if◌then◌else◌}
use Rattle.tables.specs.Notation.{◌‼◌}
use mathlib.Core.List.{foldl}
use Rattle.fields.specs.Layout.{get}
use Rattle.fields.specs.Registers as reg
use Rattle.monitor.specs.Monitor.{changed_at}
use Rattle.monitor.specs.Occupancy.{counts_unit}
use Rattle.units.specs.Owners.{is_owned, of_rcid}

-- a count of none, and the counter settings
module _ {C : Type 0} (none : C) (settings : List ℕ) where
  -- a unit of this AT counts for an MCID
  unfoldable pub noted : (C → C) → List C → ℕ → ℕ → List C
  noted change counts mcid at = changed_at none (counts_unit (settings ‼ mcid) at) change counts mcid

  -- an emptied unit counts for its owner, a free one for nobody
  unfoldable pub emptied : (C → C) → List C → ℕ → List C
  emptied evict counts owner = if is_owned owner then noted evict counts (get reg.owner_mcid owner) (get reg.owner_at owner) else counts

  -- a fill over an owned unit empties it first
  unfoldable pub refilled : (C → C) → (C → C) → List C → ℕ → ℕ → ℕ → List C
  refilled fill evict counts owner mcid at = noted fill (emptied evict counts owner) mcid at

  -- a flush counts each unit of the RCID for its owner
  unfoldable pub flushed : (C → C) → ℕ → List ℕ → List C → List C
  flushed evict rcid owners counts = foldl (λ k owner. if of_rcid rcid owner then emptied evict k owner else k) counts owners
