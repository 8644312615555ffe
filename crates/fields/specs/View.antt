-- Values in the range of their fields; the structs that hold a register's values, as lists from the highest field to the lowest.
use Rattle.std.specs.Prelude.{◌≡◌, List, [], ◌∷◌, ℕ, ◌^◌, ◌<◌}
use Rattle.fields.specs.Layout.{Place, unpack}
use Rattle.fields.specs.Registers.{held_at}
use Rattle.fields.specs.declared.AllocCtl.{AllocCtl}
use Rattle.fields.specs.declared.MonCtl.{MonCtl}
use Rattle.fields.specs.declared.BwAlloc.{BwAlloc}
use Rattle.fields.specs.declared.BandwidthCounter.{BandwidthCounter}
use Rattle.fields.specs.declared.CapacityCounter.{CapacityCounter}
use Rattle.fields.specs.declared.BandwidthCapabilities.{BandwidthCapabilities}
use Rattle.fields.specs.declared.CapacityCapabilities.{CapacityCapabilities}
use Rattle.fields.specs.declared.CounterSetting.{CounterSetting}
use Rattle.fields.specs.declared.IommuQosid.{IommuQosid}
use Rattle.fields.specs.declared.DcTa.{DcTa}
use Rattle.fields.specs.declared.Waiter.{Waiter}
use Rattle.fields.specs.declared.Owner.{Owner}

-- there is one value for each field, and it fits
abbrev pub InRange : List Place → List ℕ → Type 0
InRange [] [] = Unit
InRange [] (v ∷ vs) = ⊥
InRange (f ∷ fs) [] = ⊥
InRange (f ∷ fs) (v ∷ vs) = (v < 2 ^ f.width) × InRange fs vs

-- vs are the values of word's fields, and fit
pub record Unpacked (fs : List Place) (word : ℕ) (vs : List ℕ) : Type 0 where
  pub is : vs ≡ unpack fs word
  pub fits : InRange fs vs

-- ---- the structs

abbrev pub of_alloc_ctl : AllocCtl → List ℕ
of_alloc_ctl r = r.busy ∷ r.status ∷ r.rcid ∷ r.at ∷ r.op ∷ []

abbrev pub of_mon_ctl : MonCtl → List ℕ
of_mon_ctl r = r.busy ∷ r.status ∷ r.atv ∷ r.evtid ∷ r.mcid ∷ r.at ∷ r.op ∷ []

abbrev pub of_bw_alloc : BwAlloc → List ℕ
of_bw_alloc r = r.useshared ∷ r.sharedat ∷ r.mweight ∷ r.rbwb ∷ []

abbrev pub of_bandwidth_counter : BandwidthCounter → List ℕ
of_bandwidth_counter r = r.ovf ∷ r.invalid ∷ r.ctr ∷ []

abbrev pub of_capacity_counter : CapacityCounter → List ℕ
of_capacity_counter r = r.invalid ∷ r.ctr ∷ []

abbrev pub of_bandwidth_capabilities : BandwidthCapabilities → List ℕ
of_bandwidth_capabilities r = r.mrbwb ∷ r.nbwblks ∷ r.ver ∷ []

abbrev pub of_capacity_capabilities : CapacityCapabilities → List ℕ
of_capacity_capabilities r = r.frcid ∷ r.ncblks ∷ r.ver ∷ []

abbrev pub of_counter_setting : CounterSetting → List ℕ
of_counter_setting r = r.atv ∷ r.at ∷ r.evtid ∷ []

abbrev pub of_iommu_qosid : IommuQosid → List ℕ
of_iommu_qosid r = r.mcid ∷ r.rcid ∷ []

abbrev pub of_dc_ta : DcTa → List ℕ
of_dc_ta r = r.mcid ∷ r.rcid ∷ []

abbrev pub of_waiter : Waiter → List ℕ
of_waiter r = r.write ∷ r.at ∷ r.mcid ∷ r.need ∷ []

abbrev pub of_owner : Owner → List ℕ
of_owner r = r.owned ∷ r.at ∷ r.mcid ∷ r.rcid ∷ []

-- with NA = 1 the AT and ATV fields are held as 0
abbrev pub held_alloc_ctl : ℕ → AllocCtl → AllocCtl
held_alloc_ctl na r = record { op = r.op; at = held_at na r.at; rcid = r.rcid; status = r.status; busy = r.busy }

abbrev pub held_mon_ctl : ℕ → MonCtl → MonCtl
held_mon_ctl na r = record
    { op = r.op; at = held_at na r.at; mcid = r.mcid; evtid = r.evtid; atv = held_at na r.atv; status = r.status; busy = r.busy }
