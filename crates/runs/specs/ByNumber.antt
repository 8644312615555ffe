-- The decisions on OP and EVT_ID by their numbers alone, without the rows of the standard's tables, and the claim that the decisions by rows are the same.
use Rattle.std.specs.Prelude.{◌≡◌, Bool, false, not, ◌&&◌, ◌||◌, List, [], ◌∷◌, ℕ, set, if◌then◌else◌, ◌==◌}
use Rattle.tables.specs.Notation.{◌≤?◌, ◌<?◌, ◌‼◌}
use Rattle.fields.specs.Layout.{get, pack, named_bits}
use Rattle.fields.specs.Registers as reg
use Rattle.access.specs.Checks.{◌gives◌, first}
use Rattle.access.specs.Pairs.{word_at}
use Rattle.codes.specs.declared.Resource.{Resource}
use Rattle.codes.specs.declared.Resource.TheVariants.{Bandwidth, Capacity}
use Rattle.codes.specs.declared.AllocOp.TheVariants.{FlushRcid}
use Rattle.allocation.specs.Allocation as alloc
use Rattle.monitor.specs.Monitor as mon
use Rattle.monitor.specs.Bytes as bytes
use Rattle.monitor.specs.Occupancy as occupancy

-- OP 1 and 2 are valid, in both control registers
unfoldable pub valid_op : ℕ → Bool
valid_op op = op == 1 || op == 2

-- the events that a controller knows end here
unfoldable pub last_event : Resource → ℕ
last_event Bandwidth = 3
last_event Capacity = 1

-- ---- alloc_ctl

-- OP 3 of the capacity controller flushes an RCID
unfoldable pub flushes : Resource → ℕ → Bool
flushes Bandwidth op = false
flushes Capacity op = op == 3

unfoldable pub operation_status : Resource → ℕ → ℕ → Bool → ℕ → ℕ
operation_status resource nr na bad v =
    first
    ((not (valid_op (alloc.op_of v) || flushes resource (alloc.op_of v)) gives 2)
    ∷ (nr ≤? alloc.rcid_of v gives 3)
    ∷ ((not (flushes resource (alloc.op_of v)) && na ≤? alloc.at_of na v) gives 4)
    ∷ ((alloc.op_of v == 1 && bad) gives 5)
    ∷ [])
    1

unfoldable pub table_after : Resource → ℕ → ℕ → Bool → List ℕ → List ℕ → ℕ → List ℕ
table_after resource nr na bad table settled v = if alloc.op_of v == 1 && operation_status resource nr na bad v == 1 then settled else table

unfoldable pub operand_after : Resource → ℕ → ℕ → Bool → List ℕ → ℕ → ℕ → ℕ
operand_after resource nr na bad table operand v =
    if alloc.op_of v == 2 && operation_status resource nr na bad v == 1 then word_at na table (alloc.rcid_of v) (alloc.at_of na v) else operand

-- ---- mon_ctl
unfoldable pub mon_status : ℕ → ℕ → Resource → ℕ → ℕ
mon_status na nm resource v =
    first
    ((not (valid_op (mon.op_of v)) gives 2)
    ∷ (nm ≤? mon.mcid_of v gives 3)
    ∷ ((mon.op_of v == 1 && not (mon.event_of v ≤? last_event resource)) gives 4)
    ∷ ((mon.op_of v == 1 && mon.atv_of na v == 1 && na ≤? mon.at_of na v) gives 5)
    ∷ [])
    1

unfoldable pub setting_of : ℕ → ℕ → ℕ
setting_of na v =
    if mon.event_of v == 0 then 0
    else pack reg.counter_setting (mon.atv_of na v ∷ (if mon.atv_of na v == 1 then mon.at_of na v else 0) ∷ mon.event_of v ∷ [])

unfoldable pub write_mon : ℕ → ℕ → Resource → mon.Monitor → ℕ → mon.Monitor
write_mon na nm resource m v =
    let status = mon_status na nm resource v in
    let configures = mon.op_of v == 1 && status == 1 in
    record {
      ctl = mon.mon_word na v reg.idle status;
      value = if mon.op_of v == 2 && status == 1 then m.counters ‼ mon.mcid_of v else m.value;
      counters = if configures && not (mon.event_of v == 0) then set m.counters (mon.mcid_of v) 0 else m.counters;
      events = if configures then set m.events (mon.mcid_of v) (setting_of na v) else m.events;
    }

-- ---- counter settings
unfoldable pub setting_ok : ℕ → Resource → ℕ → Bool
setting_ok na resource s =
    s == 0
    || (1 ≤? get reg.setting_event s && get reg.setting_event s ≤? last_event resource
    && (if get reg.setting_atv s == 0 then get reg.setting_at s == 0 else get reg.setting_at s <? na && not (na == 1))
    && s == named_bits reg.counter_setting s)

unfoldable pub counts_request : ℕ → ℕ → ℕ → Bool
counts_request setting at kind =
    let event = get reg.setting_event setting in
    (event == 1 || (event == 2 && kind == 0) || (event == 3 && not (kind == 0))) && mon.matches_at setting at

unfoldable pub counts_unit : ℕ → ℕ → Bool
counts_unit setting at = get reg.setting_event setting == 1 && mon.matches_at setting at

-- ---- for every value written, set-up and table: STATUS, what the operation leaves, check 3 over counter settings, and what they count
pub record ByNumber : Type 0 where
  pub status : (resource : Resource) (nr na : ℕ) (bad : Bool) (v : ℕ) → alloc.operation_status resource nr na bad v ≡ operation_status resource nr na bad v
  pub table : (resource : Resource) (nr na : ℕ) (bad : Bool) (table settled : List ℕ) (v : ℕ)
      → alloc.table_after resource nr na bad table settled v ≡ table_after resource nr na bad table settled v
  pub operand : (resource : Resource) (nr na : ℕ) (bad : Bool) (table : List ℕ) (operand v : ℕ)
      → alloc.operand_after resource nr na bad table operand v ≡ operand_after resource nr na bad table operand v
  pub flush : (resource : Resource) (nr na : ℕ) (bad : Bool) (v : ℕ)
      → alloc.succeeds resource nr na bad FlushRcid v ≡ (flushes resource (alloc.op_of v) && operation_status resource nr na bad v == 1)
  pub mon_status : (na nm : ℕ) (resource : Resource) (v : ℕ) → mon.mon_status na nm resource v ≡ mon_status na nm resource v
  pub monitor : (na nm : ℕ) (resource : Resource) (m : mon.Monitor) (v : ℕ) → mon.write_mon na nm resource m v ≡ write_mon na nm resource m v
  pub settings : (na : ℕ) (resource : Resource) (s : ℕ) → mon.setting_ok na resource s ≡ setting_ok na resource s
  pub requests : (setting at kind : ℕ) → bytes.counts_request setting at kind ≡ counts_request setting at kind
  pub units : (setting at : ℕ) → occupancy.counts_unit setting at ≡ counts_unit setting at
