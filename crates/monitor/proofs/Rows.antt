-- What the row in which EVT_ID stands tells of it.
use mathlib.Core.Path.{◌≡◌, refl}
use mathlib.Core.Bool.{true, false, not, ◌||◌}
use Prim.Native.Nat.{ℕ, ◌≤◌, ◌<◌}
use native.Mathlib.Omega.{arith}
use lib.Dec.{T}
use Rattle.std.proofs.Math.Bool.{and-false}
use Rattle.std.proofs.lemmas.Bool.{ne_eqb}
use Rattle.tables.proofs.Tests.{or_l, or_r, is_true, not_both}
use Rattle.tables.specs.Below.{between}
use Rattle.codes.specs.Codes.{◌has◌, ◌to◌, no_event, mon_ops, bandwidth_events, capacity_events}
use Rattle.codes.specs.declared.Resource.{Resource}
use Rattle.codes.specs.declared.Resource.TheVariants.{Bandwidth, Capacity}
use Rattle.codes.specs.declared.MonOp.{MonOp}
use Rattle.codes.specs.declared.MonOp.TheVariants as row
use Rattle.codes.specs.declared.BandwidthEvent.{BandwidthEvent}
use Rattle.codes.specs.declared.BandwidthEvent.TheVariants as bandwidth
use Rattle.codes.specs.declared.CapacityEvent.{CapacityEvent}
use Rattle.codes.specs.declared.CapacityEvent.TheVariants as capacity
use Rattle.codes.proofs.Rows.{first_le, single_above, code_of, reserved_op, custom_op}
use Rattle.codes.proofs.Tables.{bandwidth_in_one, capacity_in_one}
use Rattle.monitor.specs.Monitor.{counts_event, unknown_event}
use Rattle.monitor.specs.Bytes.{counts_kind}
use Rattle.monitor.specs.View.{EffectOf}
use Rattle.monitor.specs.declared.status.Effect.{Effect}
use Rattle.monitor.specs.declared.status.Effect.TheVariants.{Nothing, Configures, Reads}

-- ---- the reserved and the custom row

pub record UnknownBytes (event : ℕ) : Type 0 where
  pub kinds : (kind : ℕ) → counts_kind event kind ≡ false
  pub unknown : unknown_event Bandwidth event ≡ true

unknown_bytes : (event : ℕ) → 4 ≤ event → T (unknown_event Bandwidth event) → UnknownBytes event
unfolding counts_kind bandwidth_events
unknown_bytes event h t =
    let one = single_above 1 event (omega arith) in
    let two = single_above 2 event (omega arith) in
    let three = single_above 3 event (omega arith) in
    record { kinds = λ kind. rw (one, two, three) refl; unknown = is_true (unknown_event Bandwidth event) t }

pub reserved_bytes : (event : ℕ) → T (bandwidth_events bandwidth.Reserved has event) → UnknownBytes event
unfolding unknown_event bandwidth_events
reserved_bytes event t =
    unknown_bytes event (first_le (4 to 127) event t) (or_l (bandwidth_events bandwidth.Reserved has event) (bandwidth_events bandwidth.Custom has event) t)

pub custom_bytes : (event : ℕ) → T (bandwidth_events bandwidth.Custom has event) → UnknownBytes event
unfolding unknown_event bandwidth_events
custom_bytes event t =
    unknown_bytes event (omega (arith, first_le (128 to 255) event t)) (or_r (bandwidth_events bandwidth.Reserved has event) (bandwidth_events bandwidth.Custom has event) t)

pub reserved_capacity : (event : ℕ) → T (capacity_events capacity.Reserved has event) → unknown_event Capacity event ≡ true
unfolding unknown_event
reserved_capacity event t = is_true (unknown_event Capacity event) (or_l (capacity_events capacity.Reserved has event) (capacity_events capacity.Custom has event) t)

pub custom_capacity : (event : ℕ) → T (capacity_events capacity.Custom has event) → unknown_event Capacity event ≡ true
unfolding unknown_event
custom_capacity event t = is_true (unknown_event Capacity event) (or_r (capacity_events capacity.Reserved has event) (capacity_events capacity.Custom has event) t)

-- ---- an event that is known and not None is counted

module _ (event : ℕ) (some : T (not (no_event has event))) where
  counts_bytes : T (not (unknown_event Bandwidth event)) → (r : BandwidthEvent) → T (bandwidth_events r has event) → T (counts_event Bandwidth event)
  unfolding counts_event unknown_event bandwidth_events
  counts_bytes known bandwidth.None t = absurd (not_both (no_event has event) t some)
  counts_bytes known bandwidth.TotalReadWrite t = or_l (bandwidth_events bandwidth.TotalReadWrite has event || bandwidth_events bandwidth.TotalRead has event) (bandwidth_events bandwidth.TotalWrite has event)
      (or_l (bandwidth_events bandwidth.TotalReadWrite has event) (bandwidth_events bandwidth.TotalRead has event) t)
  counts_bytes known bandwidth.TotalRead t = or_l (bandwidth_events bandwidth.TotalReadWrite has event || bandwidth_events bandwidth.TotalRead has event) (bandwidth_events bandwidth.TotalWrite has event)
      (or_r (bandwidth_events bandwidth.TotalReadWrite has event) (bandwidth_events bandwidth.TotalRead has event) t)
  counts_bytes known bandwidth.TotalWrite t = or_r (bandwidth_events bandwidth.TotalReadWrite has event || bandwidth_events bandwidth.TotalRead has event) (bandwidth_events bandwidth.TotalWrite has event) t
  counts_bytes known bandwidth.Reserved t = absurd (not_both (unknown_event Bandwidth event) (or_l (bandwidth_events bandwidth.Reserved has event) (bandwidth_events bandwidth.Custom has event) t) known)
  counts_bytes known bandwidth.Custom t = absurd (not_both (unknown_event Bandwidth event) (or_r (bandwidth_events bandwidth.Reserved has event) (bandwidth_events bandwidth.Custom has event) t) known)

  counts_capacity : T (not (unknown_event Capacity event)) → (r : CapacityEvent) → T (capacity_events r has event) → T (counts_event Capacity event)
  unfolding counts_event unknown_event capacity_events
  counts_capacity known capacity.None t = absurd (not_both (no_event has event) t some)
  counts_capacity known capacity.Occupancy t = t
  counts_capacity known capacity.Reserved t = absurd (not_both (unknown_event Capacity event) (or_l (capacity_events capacity.Reserved has event) (capacity_events capacity.Custom has event) t) known)
  counts_capacity known capacity.Custom t = absurd (not_both (unknown_event Capacity event) (or_r (capacity_events capacity.Reserved has event) (capacity_events capacity.Custom has event) t) known)

pub known_counts : (resource : Resource) (event : ℕ) → event < 256 → T (not (unknown_event resource event)) → T (not (no_event has event)) → T (counts_event resource event)
known_counts Bandwidth event h known some = let one = bandwidth_in_one.each event h in counts_bytes event some known one.row one.stands
known_counts Capacity event h known some = let one = capacity_in_one.each event h in counts_capacity event some known one.row one.stands

-- ---- what an operation does, by the row of OP

-- the effect of a row
abbrev pub row_effect : MonOp → Effect
row_effect row.ReservedZero = Nothing
row_effect row.ConfigEvent = Configures
row_effect row.ReadCounter = Reads
row_effect row.Reserved = Nothing
row_effect row.Custom = Nothing

-- where it ended with STATUS 1
pub effect_by : (op status : ℕ) → status ≡ 1 → (r : MonOp) → T (mon_ops r has op) → EffectOf op status (row_effect r)
unfolding mon_ops ◌has◌ between
effect_by op status e row.ReservedZero t = let o = code_of 0 op t in record { configures_is = rw o refl; reads_is = rw o refl }
effect_by op status e row.ConfigEvent t = let o = code_of 1 op t in record { configures_is = rw (o, e) refl; reads_is = rw o refl }
effect_by op status e row.ReadCounter t = let o = code_of 2 op t in record { configures_is = rw o refl; reads_is = rw (o, e) refl }
effect_by op status e row.Reserved t = let o = reserved_op op t in record { configures_is = rw o.not1 refl; reads_is = rw o.not2 refl }
effect_by op status e row.Custom t = let o = custom_op op t in record { configures_is = rw o.not1 refl; reads_is = rw o.not2 refl }

-- and where it did not
pub no_effect : (op status : ℕ) → (status ≡ 1 → ⊥) → EffectOf op status Nothing
no_effect op status f =
    let e = ne_eqb status 1 f in
    record { configures_is = rw (e, and-false (mon_ops row.ConfigEvent has op)) refl; reads_is = rw (e, and-false (mon_ops row.ReadCounter has op)) refl }
