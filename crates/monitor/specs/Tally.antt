-- A tally of what each MCID counted, by calls and answers alone, in counts of any type.
use Rattle.std.specs.Prelude.{Bool, not, ◌&&◌, List, ℕ, get_or, set, replicate, if◌then◌else◌}
use Rattle.tables.specs.Notation.{◌‼◌}
use Rattle.codes.specs.Codes.{◌has◌, no_event}
use Rattle.codes.specs.declared.Resource.{Resource}
use Rattle.codes.specs.declared.MonOp.{MonOp}
use Rattle.codes.specs.declared.MonOp.TheVariants.{ConfigEvent, ReadCounter}
use Rattle.monitor.specs.Monitor.{mcid_of, event_of, mon_succeeds, setting_of, changed_at}

-- how a controller with a set-up of type U counts: NA, NM and its resource; nothing counted, and the counter of a count
pub record Counter (U K : Type 0) : Type 0 where
  pub na : U → ℕ
  pub nm : U → ℕ
  pub resource : Resource
  pub none : K
  pub word : U → K → ℕ

-- for each MCID its setting, and its count since its last accepted CONFIG_EVENT with an event other than None; what mon_ctr_val shows
pub record Tally (U K : Type 0) : Type 0 where
  pub setup : U
  pub settings : List ℕ
  pub counts : List K
  pub shown : ℕ

abbrev pub with_counts : {U K : Type 0} → Tally U K → List K → Tally U K
with_counts t counts = record { setup = t.setup; settings = t.settings; counts = counts; shown = t.shown }

module _ {U K : Type 0} (r : Counter U K) where
  unfoldable pub tally_start : U → Tally U K
  tally_start u = record { setup = u; settings = replicate (r.nm u) 0; counts = replicate (r.nm u) r.none; shown = 0 }

  -- a write that performs an operation of mon_ctl; event None keeps the count, and with setting 0 nothing is added to it
  unfoldable pub tally_mon : Tally U K → ℕ → Tally U K
  tally_mon t v =
      let na = r.na t.setup in
      let ends : MonOp → Bool = λ row. mon_succeeds na (r.nm t.setup) r.resource row v in
      record {
        setup = t.setup;
        settings = if ends ConfigEvent then set t.settings (mcid_of v) (setting_of na v) else t.settings;
        counts = if ends ConfigEvent && not (no_event has event_of v) then set t.counts (mcid_of v) r.none else t.counts;
        shown = if ends ReadCounter then r.word t.setup (get_or t.counts (mcid_of v) r.none) else t.shown;
      }

  -- the tally's counts change as the controller's counters do
  unfoldable pub tallied : (ℕ → Bool) → Tally U K → ℕ → (K → K) → Tally U K
  tallied matches t mcid change = with_counts t (changed_at r.none (matches (t.settings ‼ mcid)) change t.counts mcid)
