-- What is claimed of the counter of an MCID that owned no unit when it was configured: it tells how many units the MCID owns.
use Rattle.std.specs.Prelude.{◌≡◌, Bool, false, ◌&&◌, ◌||◌, List, ◌∷◌, ℕ, ◌*◌, T, ◌==◌}
use Rattle.tables.specs.Notation.{◌‼◌}
use Rattle.runs.specs.Runs.{Event, event, after, events, untouched, step_of, note_of, Always}
use Rattle.access.specs.Access as access
use Rattle.access.specs.Checks.{on_write}
use Rattle.fields.specs.Layout.{get}
use Rattle.fields.specs.Registers as reg
use Rattle.codes.specs.Codes.{◌has◌, capacity_events}
use Rattle.codes.specs.declared.Resource.TheVariants.{Capacity}
use Rattle.codes.specs.declared.MonOp.TheVariants.{ConfigEvent}
use Rattle.codes.specs.declared.CapacityEvent.TheVariants.{Occupancy}
use Rattle.monitor.specs.Monitor.{mcid_of, event_of, atv_of, mon_succeeds}
use Rattle.units.specs.Owners.{units_of}
use Rattle.capacity_model.specs.Calls.{Call, kind_of, write, Answer}
use Rattle.capacity_model.specs.Model.{State}
use Rattle.capacity_model.specs.Ledger.{Ledger, accepted}
use Rattle.capacity_model.specs.Claim.{controller, is_reset, book}

-- the value written to mon_ctl gives a counter a new setting, by the ledger's set-up
abbrev pub configures : Ledger → ℕ → Bool
configures l v = mon_succeeds l.setup.na l.setup.nm Capacity ConfigEvent v

-- the event is an accepted reset, or gives the counter of the MCID a new setting
unfoldable pub renews : ℕ → Ledger → Event Call Answer → Bool
renews mcid l e =
    accepted e.answer
    && (is_reset e.call || on_write (kind_of e.call) (λ size offset v. access.writes_low offset access.mon_ctl && (configures l v && mcid_of v == mcid)) false)

-- in the state s with the ledger l the write of v to mon_ctl configures the counter of the MCID with event Occupancy and ATV 0, the MCID owns no unit, and no call between renews the counter
pub record Since (s : State) (l : Ledger) (size v mcid : ℕ) (between : List Call) : Type 0 where
  pub written : T (accepted (step_of controller s (write size (8 * access.mon_ctl) v)).answer)
  pub succeeds : T (configures l v)
  pub named : mcid_of v ≡ mcid
  pub occupancy : T (capacity_events Occupancy has event_of v)
  pub any_at : atv_of l.setup.na v ≡ 0
  pub no_unit : units_of mcid l.owners ≡ 0
  pub lasts : T (untouched (note_of controller book.keeper) (renews mcid)
      (note_of controller book.keeper l (event (step_of controller) s (write size (8 * access.mon_ctl) v)))
      (events (step_of controller) (step_of controller s (write size (8 * access.mon_ctl) v)).state between))

-- a counter is valid, and tells n
pub record Tells (word n : ℕ) : Type 0 where
  pub valid : get reg.capacity_invalid word ≡ 0
  pub count : get reg.capacity_ctr word ≡ n

-- after that write and the calls between, the counter tells the units that the MCID owns
abbrev pub TellsUnits : State → Ledger → Type 0
TellsUnits s l =
    (size v mcid : ℕ) (between : List Call) → Since s l size v mcid between
    → (let t = after (step_of controller) s (write size (8 * access.mon_ctl) v ∷ between) in
    Tells (t.monitor.counters ‼ mcid) (units_of mcid t.owners))

pub record Occupied : Type 0 where
  pub always : Always controller book.keeper TellsUnits
