-- What is claimed of the tables of codes: each code of its field stands in exactly one row.
use Rattle.std.specs.Prelude.{◌≡◌, ℕ, ◌<◌, T}
use Rattle.codes.specs.declared.Resource.{Resource}
use Rattle.codes.specs.Codes.{Codes, ◌has◌, alloc_ops, mon_ops, bandwidth_events, capacity_events}

-- the code stands in one row, and in no other
pub record OneRow {X : Type 0} (table : X → Codes) (code : ℕ) : Type 0 where
  pub row : X
  pub stands : T (table row has code)
  pub only : (r : X) → T (table r has code) → r ≡ row

-- each code below end stands in exactly one row, and no row has another code
pub record EachInOneRow {X : Type 0} (table : X → Codes) (end : ℕ) : Type 0 where
  pub each : (code : ℕ) → code < end → OneRow table code
  pub below : (r : X) (code : ℕ) → T (table r has code) → code < end

-- OP has five bits and EVT_ID has eight
pub record Tables : Type 0 where
  pub alloc_op : (resource : Resource) → EachInOneRow (alloc_ops resource) 32
  pub mon_op : EachInOneRow mon_ops 32
  pub bandwidth_event : EachInOneRow bandwidth_events 256
  pub capacity_event : EachInOneRow capacity_events 256
