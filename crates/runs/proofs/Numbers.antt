-- The decisions by rows are those by numbers: two tests of a code are compared at every code of its field.
use mathlib.Core.Path.{◌≡◌, refl}
use mathlib.Core.Bool.{Bool, true, false, not, ◌&&◌, ◌||◌}
use mathlib.Core.List.{List}
use Prim.Native.Nat.{ℕ, ◌<◌}
use lib.Dec.{T, leb, eqb}
use Rattle.fields.specs.Layout.{get}
use Rattle.fields.specs.Registers as reg
use Rattle.fields.proofs.Laws.{get_lt}
use Rattle.tables.specs.Below.{between, all_below}
use Rattle.tables.proofs.Laws.{all_at}
use Rattle.codes.specs.Codes.{◌has◌, ◌to◌, no_code, alloc_ops, mon_ops, bandwidth_events, capacity_events}
use Rattle.codes.specs.declared.Resource.{Resource}
use Rattle.codes.specs.declared.Resource.TheVariants.{Bandwidth, Capacity}
use Rattle.codes.specs.declared.AllocOp.TheVariants.{FlushRcid}
use Rattle.codes.proofs.Rows.{single_test}
use Rattle.allocation.specs.Allocation as alloc
use Rattle.monitor.specs.Monitor as mon
use Rattle.monitor.specs.Bytes as bytes
use Rattle.monitor.specs.Occupancy as occupancy
use Rattle.runs.specs.ByNumber as number

-- ---- tests of a code

same : Bool → Bool → Bool
same a b = (a && b) || (not a && not b)

same_is : (a b : Bool) → T (same a b) → a ≡ b
unfolding same
same_is true true t = refl
same_is true false t = absurd t
same_is false true t = absurd t
same_is false false t = refl

below_same : (end : ℕ) (f g : ℕ → Bool) → T (all_below end (λ c. same (f c) (g c))) → (c : ℕ) → c < end → f c ≡ g c
below_same end f g t c h = same_is (f c) (g c) (all_at end (λ x. same (f x) (g x)) t c h)

other_same : (op : ℕ) → op < 32 → ((0 to 0) has op || (3 to 23) has op || (24 to 31) has op) ≡ not (number.valid_op op)
unfolding same all_below ◌has◌ between number.valid_op
other_same = below_same 32 (λ op. (0 to 0) has op || (3 to 23) has op || (24 to 31) has op) (λ op. not (number.valid_op op)) tt

unknown_same : (resource : Resource) (event : ℕ) → event < 256 → mon.unknown_event resource event ≡ not (leb event (number.last_event resource))
unfolding same all_below ◌has◌ between mon.unknown_event bandwidth_events capacity_events number.last_event
unknown_same Bandwidth = below_same 256 (mon.unknown_event Bandwidth) (λ event. not (leb event 3)) tt
unknown_same Capacity = below_same 256 (mon.unknown_event Capacity) (λ event. not (leb event 1)) tt

counts_same : (resource : Resource) (event : ℕ) → event < 256 → mon.counts_event resource event ≡ (leb 1 event && leb event (number.last_event resource))
unfolding same all_below ◌has◌ between mon.counts_event bandwidth_events capacity_events number.last_event
counts_same Bandwidth = below_same 256 (mon.counts_event Bandwidth) (λ event. leb 1 event && leb event 3) tt
counts_same Capacity = below_same 256 (mon.counts_event Capacity) (λ event. leb 1 event && leb event 1) tt

-- ---- alloc_ctl

invalid_same : (resource : Resource) (op : ℕ) → op < 32 → alloc.invalid_op resource op ≡ not (number.valid_op op || number.flushes resource op)
unfolding same all_below ◌has◌ between alloc.invalid_op alloc_ops number.valid_op number.flushes
invalid_same Bandwidth = below_same 32 (alloc.invalid_op Bandwidth) (λ op. not (number.valid_op op || false)) tt
invalid_same Capacity = below_same 32 (alloc.invalid_op Capacity) (λ op. not (number.valid_op op || eqb op 3)) tt

flush_same : (resource : Resource) (op : ℕ) → op < 32 → alloc_ops resource FlushRcid has op ≡ number.flushes resource op
unfolding same all_below ◌has◌ between alloc_ops number.flushes
flush_same Bandwidth = below_same 32 (λ op. no_code has op) (λ op. false) tt
flush_same Capacity = below_same 32 (λ op. (3 to 3) has op) (λ op. eqb op 3) tt

module _ (resource : Resource) (nr na : ℕ) (bad : Bool) where
  status : (v : ℕ) → alloc.operation_status resource nr na bad v ≡ number.operation_status resource nr na bad v
  unfolding alloc.operation_status alloc.performs alloc.op_of alloc_ops number.operation_status
  status v = rw (invalid_same resource (alloc.op_of v) (get_lt reg.op v), flush_same resource (alloc.op_of v) (get_lt reg.op v), ← single_test 1 (alloc.op_of v)) refl

  table : (words settled : List ℕ) (v : ℕ) → alloc.table_after resource nr na bad words settled v ≡ number.table_after resource nr na bad words settled v
  unfolding alloc.table_after alloc.succeeds alloc.performs alloc_ops number.table_after
  table words settled v = rw (status v, ← single_test 1 (alloc.op_of v)) refl

  operand : (words : List ℕ) (word v : ℕ) → alloc.operand_after resource nr na bad words word v ≡ number.operand_after resource nr na bad words word v
  unfolding alloc.operand_after alloc.succeeds alloc.performs alloc_ops number.operand_after
  operand words word v = rw (status v, ← single_test 2 (alloc.op_of v)) refl

  flush : (v : ℕ) → alloc.succeeds resource nr na bad FlushRcid v ≡ (number.flushes resource (alloc.op_of v) && eqb (number.operation_status resource nr na bad v) 1)
  unfolding alloc.succeeds alloc.performs alloc.op_of
  flush v = rw (status v, flush_same resource (alloc.op_of v) (get_lt reg.op v)) refl

-- ---- mon_ctl

module _ (na nm : ℕ) (resource : Resource) where
  mon_status_lem : (v : ℕ) → mon.mon_status na nm resource v ≡ number.mon_status na nm resource v
  unfolding mon.mon_status mon.invalid_op mon.performs mon.op_of mon.event_of mon_ops number.mon_status
  mon_status_lem v = rw (other_same (mon.op_of v) (get_lt reg.op v), unknown_same resource (mon.event_of v) (get_lt reg.evt_id v), ← single_test 1 (mon.op_of v)) refl

  monitor : (m : mon.Monitor) (v : ℕ) → mon.write_mon na nm resource m v ≡ number.write_mon na nm resource m v
  unfolding mon.write_mon mon.performs mon.setting_of mon_ops number.write_mon number.setting_of
  monitor m v = rw (mon_status_lem v, ← single_test 0 (mon.event_of v), ← single_test 1 (mon.op_of v), ← single_test 2 (mon.op_of v)) refl

-- ---- counter settings

settings : (na : ℕ) (resource : Resource) (s : ℕ) → mon.setting_ok na resource s ≡ number.setting_ok na resource s
unfolding mon.setting_ok number.setting_ok
settings na resource s = rw (counts_same resource (get reg.setting_event s) (get_lt reg.setting_event s)) refl

requests : (setting at kind : ℕ) → bytes.counts_request setting at kind ≡ number.counts_request setting at kind
unfolding bytes.counts_request bytes.counts_kind bandwidth_events number.counts_request
requests setting at kind =
    let event = get reg.setting_event setting in
    rw (← single_test 1 event, ← single_test 2 event, ← single_test 3 event) refl

units : (setting at : ℕ) → occupancy.counts_unit setting at ≡ number.counts_unit setting at
unfolding occupancy.counts_unit capacity_events number.counts_unit
units setting at = rw (← single_test 1 (get reg.setting_event setting)) refl

pub by_number : number.ByNumber
by_number = record { status = status; table = table; operand = operand; flush = flush; mon_status = mon_status_lem; monitor = monitor; settings = settings; requests = requests; units = units }
