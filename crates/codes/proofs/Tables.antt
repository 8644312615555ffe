-- The tables: their rows follow each other and fill the field.
use mathlib.Core.Path.{◌≡◌, refl, sym, ap, ◌∙◌}
use mathlib.Core.Bool.{Bool}
use mathlib.Core.List.{List, [], ◌∷◌, Memᴰ}
use Prim.Native.Nat.{ℕ}
use native.Mathlib.Omega.{arith}
use lib.Dec.{T, eqb, eqb→eq}
use lib.ListN.{get_or}
use Rattle.tables.proofs.Tests.{same_test, eqb_in}
use Rattle.codes.specs.Codes.{◌has◌, no_code, alloc_ops, mon_ops, bandwidth_events, capacity_events}
use Rattle.codes.specs.Claims.{EachInOneRow, Tables}
use Rattle.codes.specs.declared.Resource.{Resource}
use Rattle.codes.specs.declared.Resource.TheVariants.{Bandwidth, Capacity}
use Rattle.codes.specs.declared.AllocOp.{AllocOp}
use Rattle.codes.specs.declared.AllocOp.TheVariants as alloc
use Rattle.codes.specs.declared.MonOp.{MonOp}
use Rattle.codes.specs.declared.MonOp.TheVariants as mon
use Rattle.codes.specs.declared.BandwidthEvent.{BandwidthEvent}
use Rattle.codes.specs.declared.BandwidthEvent.TheVariants as bandwidth
use Rattle.codes.specs.declared.CapacityEvent.{CapacityEvent}
use Rattle.codes.specs.declared.CapacityEvent.TheVariants as capacity
use Rattle.codes.proofs.Rows.{first_le, le_last, found, one_row, each_in_one}

-- the rows with a code
abbrev alloc_rows : Resource → List AllocOp
alloc_rows Bandwidth = alloc.ReservedZero ∷ alloc.ConfigLimit ∷ alloc.ReadLimit ∷ alloc.Reserved ∷ alloc.Custom ∷ []
alloc_rows Capacity = alloc.ReservedZero ∷ alloc.ConfigLimit ∷ alloc.ReadLimit ∷ alloc.FlushRcid ∷ alloc.Reserved ∷ alloc.Custom ∷ []

pub alloc_in_one : (resource : Resource) → EachInOneRow (alloc_ops resource) 32
unfolding alloc_ops
alloc_in_one Bandwidth = each_in_one (alloc_ops Bandwidth) (alloc_rows Bandwidth) 32 tt every
  where
    every : (r : AllocOp) (op : ℕ) → T (alloc_ops Bandwidth r has op) → Memᴰ r (alloc_rows Bandwidth)
    every alloc.ReservedZero op t = Memᴰ.head refl
    every alloc.ConfigLimit op t = search (Memᴰ.head, Memᴰ.tail) depth 7
    every alloc.ReadLimit op t = search (Memᴰ.head, Memᴰ.tail) depth 7
    every alloc.FlushRcid op t = absurd (omega (arith, first_le no_code op t, le_last no_code op t))
    every alloc.Reserved op t = search (Memᴰ.head, Memᴰ.tail) depth 7
    every alloc.Custom op t = search (Memᴰ.head, Memᴰ.tail) depth 7
alloc_in_one Capacity = each_in_one (alloc_ops Capacity) (alloc_rows Capacity) 32 tt (λ r op t. every r)
  where
    every : (r : AllocOp) → Memᴰ r (alloc_rows Capacity)
    every alloc.ReservedZero = Memᴰ.head refl
    every alloc.ConfigLimit = search (Memᴰ.head, Memᴰ.tail) depth 8
    every alloc.ReadLimit = search (Memᴰ.head, Memᴰ.tail) depth 8
    every alloc.FlushRcid = search (Memᴰ.head, Memᴰ.tail) depth 8
    every alloc.Reserved = search (Memᴰ.head, Memᴰ.tail) depth 8
    every alloc.Custom = search (Memᴰ.head, Memᴰ.tail) depth 8

-- a row by its number
abbrev pub number : AllocOp → ℕ
number alloc.ReservedZero = 0
number alloc.ConfigLimit = 1
number alloc.ReadLimit = 2
number alloc.FlushRcid = 3
number alloc.Reserved = 4
number alloc.Custom = 5

numbered : (r : AllocOp) → get_or (alloc_rows Capacity) (number r) alloc.Custom ≡ r
numbered alloc.ReservedZero = refl
numbered alloc.ConfigLimit = refl
numbered alloc.ReadLimit = refl
numbered alloc.FlushRcid = refl
numbered alloc.Reserved = refl
numbered alloc.Custom = refl

abbrev pub same : AllocOp → AllocOp → Bool
same r s = eqb (number r) (number s)

-- an OP of one row is in another exactly where that is the same
pub alloc_told : (resource : Resource) (r : AllocOp) (op : ℕ) → T (alloc_ops resource r has op) → (s : AllocOp) → alloc_ops resource s has op ≡ same r s
alloc_told resource r op t s =
    same_test (alloc_ops resource s has op) (same r s)
    (λ u. eqb_in (number r) (number s) (ap number (one_row (alloc_in_one resource) r s op t u)))
    (λ u. found (alloc_ops resource) s op (sym (numbered r) ∙ ap (λ (n : ℕ). get_or (alloc_rows Capacity) n alloc.Custom) (eqb→eq (number r) (number s) u) ∙ numbered s) t)

abbrev mon_rows : List MonOp
mon_rows = mon.ReservedZero ∷ mon.ConfigEvent ∷ mon.ReadCounter ∷ mon.Reserved ∷ mon.Custom ∷ []

pub mon_in_one : EachInOneRow mon_ops 32
unfolding mon_ops
mon_in_one = each_in_one mon_ops mon_rows 32 tt (λ r code t. every r)
  where
    every : (r : MonOp) → Memᴰ r mon_rows
    every mon.ReservedZero = Memᴰ.head refl
    every mon.ConfigEvent = search (Memᴰ.head, Memᴰ.tail) depth 7
    every mon.ReadCounter = search (Memᴰ.head, Memᴰ.tail) depth 7
    every mon.Reserved = search (Memᴰ.head, Memᴰ.tail) depth 7
    every mon.Custom = search (Memᴰ.head, Memᴰ.tail) depth 7

abbrev bandwidth_rows : List BandwidthEvent
bandwidth_rows = bandwidth.None ∷ bandwidth.TotalReadWrite ∷ bandwidth.TotalRead ∷ bandwidth.TotalWrite ∷ bandwidth.Reserved ∷ bandwidth.Custom ∷ []

pub bandwidth_in_one : EachInOneRow bandwidth_events 256
unfolding bandwidth_events
bandwidth_in_one = each_in_one bandwidth_events bandwidth_rows 256 tt (λ r code t. every r)
  where
    every : (r : BandwidthEvent) → Memᴰ r bandwidth_rows
    every bandwidth.None = Memᴰ.head refl
    every bandwidth.TotalReadWrite = search (Memᴰ.head, Memᴰ.tail) depth 8
    every bandwidth.TotalRead = search (Memᴰ.head, Memᴰ.tail) depth 8
    every bandwidth.TotalWrite = search (Memᴰ.head, Memᴰ.tail) depth 8
    every bandwidth.Reserved = search (Memᴰ.head, Memᴰ.tail) depth 8
    every bandwidth.Custom = search (Memᴰ.head, Memᴰ.tail) depth 8

abbrev capacity_rows : List CapacityEvent
capacity_rows = capacity.None ∷ capacity.Occupancy ∷ capacity.Reserved ∷ capacity.Custom ∷ []

pub capacity_in_one : EachInOneRow capacity_events 256
unfolding capacity_events
capacity_in_one = each_in_one capacity_events capacity_rows 256 tt (λ r code t. every r)
  where
    every : (r : CapacityEvent) → Memᴰ r capacity_rows
    every capacity.None = Memᴰ.head refl
    every capacity.Occupancy = search (Memᴰ.head, Memᴰ.tail) depth 6
    every capacity.Reserved = search (Memᴰ.head, Memᴰ.tail) depth 6
    every capacity.Custom = search (Memᴰ.head, Memᴰ.tail) depth 6

pub tables : Tables
tables = record { alloc_op = alloc_in_one; mon_op = mon_in_one; bandwidth_event = bandwidth_in_one; capacity_event = capacity_in_one }
