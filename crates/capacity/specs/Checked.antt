-- What the checks leave, for the functions that go on from there.
use Rattle.std.specs.Prelude.{◌≡◌, Bool, cond, List, ℕ, T, eqb, length, get_or, set, Result, Ok, Err}
use Rattle.fields.specs.Registers as reg
use Rattle.tables.specs.Below.{all_below}
use Rattle.access.specs.Checks.{first}
use Rattle.access.specs.Pairs.{known_at}
use Rattle.access.specs.declared.Refusal.{Refusal}
use Rattle.allocation.specs.Allocation.{rcid_of}
use Rattle.monitor.specs.Monitor.{mcid_of, counter_ok, setting_ok}
use Rattle.codes.specs.declared.Resource.TheVariants.{Capacity}
use Rattle.monitor.specs.Occupancy.{evicted}
use Rattle.units.specs.Owners.{owner_ok, flushed_owners}
use Rattle.units.specs.Counts.{flushed}
use Rattle.capacity_model.specs.Rules.{Setup, mask_of}
use Rattle.capacity_model.specs.Calls.{fill}
use Rattle.capacity_model.specs.View.{Ranges, Sized, Named}
use Rattle.capacity_model.specs.Model.{State, well_formed, state_checks, unit_filled, unit_evicted, step}
use Rattle.capacity_masks.specs.Words.{pair_of}
use Rattle.capacity.specs.View.{state, outcome, filling_of}
use Rattle.capacity.specs.declared.WriteWords.{WriteWords}

-- the state passes checks 1 to 3
pub record Passes (s : State) : Type 0 where
  pub ranges : Ranges s.setup
  pub sized : Sized s.setup s.alloc.masks s.monitor.counters s.monitor.events s.owners
  pub wellformed : T (well_formed s)

abbrev pub Passed : State → Type 0
Passed s = 0 ≡ first (state_checks s) 0

-- the tables have their lengths, and m, k, e and o say whether all masks, counters, settings and owners are well formed
pub record TablesTested (su : Setup) (masks counters events owners : List ℕ) (m k e o : Bool) : Type 0 where
  pub sized : Sized su masks counters events owners
  pub masks_are : m ≡ all_below (length masks) (λ i. eqb (get_or masks i 0) (mask_of su (get_or masks i 0)))
  pub counters_are : k ≡ all_below (length counters) (λ i. counter_ok reg.capacity_counter reg.capacity_ctr su.w (get_or counters i 0))
  pub events_are : e ≡ all_below (length events) (λ i. setting_ok su.na Capacity (get_or events i 0))
  pub owners_are : o ≡ all_below (length owners) (λ i. owner_ok su.nr su.nm su.na (get_or owners i 0))

-- the counter of an MCID and its setting
pub record CounterIn (s : State) (mcid counter setting : ℕ) : Type 0 where
  pub counter_is : counter ≡ get_or s.monitor.counters mcid 0
  pub setting_is : setting ≡ get_or s.monitor.events mcid 0

-- the mask of the pair that a written value names, and the counter of its MCID with its setting
pub record WordsIn (s : State) (v mask counter setting : ℕ) : Type 0 where
  pub mask_is : mask ≡ get_or s.alloc.masks (pair_of s.setup v) 0
  pub monitor_is : CounterIn s (mcid_of v) counter setting

-- the state with the words that a write leaves, and with the units flushed where it does that
abbrev pub wrote : Setup → WriteWords → List ℕ → List ℕ → List ℕ → List ℕ → ℕ → State
wrote su x masks counters events owners v =
    let k = set counters (mcid_of v) x.counter in
    let e = set events (mcid_of v) x.setting in
    state x.«record» (set masks (pair_of su v) x.mask) (cond x.flushes (flushed 0 e evicted (rcid_of v) owners k) k) e
    (cond x.flushes (flushed_owners (rcid_of v) owners) owners)

-- a refused write leaves the state
abbrev pub write_left : State → ℕ → Result WriteWords Refusal → State
write_left s v (Ok x) = wrote s.setup x s.alloc.masks s.monitor.counters s.monitor.events s.owners v
write_left s v (Err why) = s

-- ---- cache events: what an answer leaves

abbrev pub fill_left : State → ℕ → ℕ → ℕ → ℕ → Result Bool Refusal → State
fill_left s rcid mcid at unit (Ok b) = cond b (unit_filled s rcid mcid (known_at s.setup.na at) unit) s
fill_left s rcid mcid at unit (Err why) = s

-- where it is not refused, there is all that it names
abbrev pub FillNamed : Setup → ℕ → ℕ → ℕ → Result Bool Refusal → Type 0
FillNamed su rcid mcid unit (Ok b) = Named su rcid mcid unit
FillNamed su rcid mcid unit (Err why) = Unit

-- a fill in this state answers so
pub record FillAnswered (s : State) (rcid mcid at unit : ℕ) (r : Result Bool Refusal) : Type 0 where
  pub answers : outcome (filling_of r) (fill_left s rcid mcid at unit r) ≡ step s (fill rcid mcid at unit)
  pub named : FillNamed s.setup rcid mcid unit r

abbrev pub evict_left : {X : Type 0} → State → ℕ → Result X Refusal → State
evict_left s unit (Ok x) = unit_evicted s unit
evict_left s unit (Err why) = s
