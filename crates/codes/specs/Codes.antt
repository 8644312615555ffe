-- The standard's tables of operation and event codes: each row is a case of an enum, with its first and its last code (rules O1, M1 and M3).
use Rattle.std.specs.Prelude.{Bool, ℕ}
use Rattle.tables.specs.Below.{between}
use Rattle.codes.specs.declared.Resource.{Resource}
use Rattle.codes.specs.declared.Resource.TheVariants.{Bandwidth, Capacity}
use Rattle.codes.specs.declared.AllocOp.{AllocOp}
use Rattle.codes.specs.declared.AllocOp.TheVariants as alloc
use Rattle.codes.specs.declared.MonOp.{MonOp}
use Rattle.codes.specs.declared.MonOp.TheVariants as mon
use Rattle.codes.specs.declared.BandwidthEvent.{BandwidthEvent}
use Rattle.codes.specs.declared.BandwidthEvent.TheVariants as bandwidth
use Rattle.codes.specs.declared.CapacityEvent.{CapacityEvent}
use Rattle.codes.specs.declared.CapacityEvent.TheVariants as capacity

-- the codes of a row
pub record Codes : Type 0 where
  pub first : ℕ
  pub last : ℕ

infix 60 ◌to◌
abbrev pub ◌to◌ : ℕ → ℕ → Codes
◌to◌ a b = record { first = a; last = b }

-- the row has this code
infix 50 ◌has◌
unfoldable pub ◌has◌ : Codes → ℕ → Bool
◌has◌ row code = between row.first code row.last

-- a row that a table does not have
abbrev pub no_code : Codes
no_code = 1 to 0

-- OP of alloc_ctl: Table 12 of the bandwidth controller and Table 6 of the capacity controller, which alone has FLUSH_RCID
unfoldable pub alloc_ops : Resource → AllocOp → Codes
alloc_ops resource alloc.ReservedZero = 0 to 0
alloc_ops resource alloc.ConfigLimit = 1 to 1
alloc_ops resource alloc.ReadLimit = 2 to 2
alloc_ops Bandwidth alloc.FlushRcid = no_code
alloc_ops Capacity alloc.FlushRcid = 3 to 3
alloc_ops Bandwidth alloc.Reserved = 3 to 23
alloc_ops Capacity alloc.Reserved = 4 to 23
alloc_ops resource alloc.Custom = 24 to 31

-- OP of mon_ctl: Table 9 of the bandwidth controller, and Table 3 of the capacity controller, with the same rows
unfoldable pub mon_ops : MonOp → Codes
mon_ops mon.ReservedZero = 0 to 0
mon_ops mon.ConfigEvent = 1 to 1
mon_ops mon.ReadCounter = 2 to 2
mon_ops mon.Reserved = 3 to 23
mon_ops mon.Custom = 24 to 31

-- event None, the same row in both tables of EVT_ID
abbrev pub no_event : Codes
no_event = 0 to 0

-- EVT_ID of the bandwidth controller: Table 10; the source's custom range 128-256 is read as 128 to 255
unfoldable pub bandwidth_events : BandwidthEvent → Codes
bandwidth_events bandwidth.None = no_event
bandwidth_events bandwidth.TotalReadWrite = 1 to 1
bandwidth_events bandwidth.TotalRead = 2 to 2
bandwidth_events bandwidth.TotalWrite = 3 to 3
bandwidth_events bandwidth.Reserved = 4 to 127
bandwidth_events bandwidth.Custom = 128 to 255

-- EVT_ID of the capacity controller: Table 4, with the custom range as above
unfoldable pub capacity_events : CapacityEvent → Codes
capacity_events capacity.None = no_event
capacity_events capacity.Occupancy = 1 to 1
capacity_events capacity.Reserved = 2 to 127
capacity_events capacity.Custom = 128 to 255
