use Rattle.allocation.proofs.Status.{by_fields}
use Rattle.allocation.proofs.alloc_status.Goals as goal

pub returns-in-ReservedZero : goal.returns-in-ReservedZero
returns-in-ReservedZero c =
    let o = c.before in
    by_fields _ _ _ _ _ o.held_fields-f.ensures o.alloc_op.result o.alloc_op.ensures _ (rw c.in-ReservedZero.is)

pub returns-in-ConfigLimit : goal.returns-in-ConfigLimit
returns-in-ConfigLimit c =
    let o = c.before in
    by_fields _ _ _ _ _ o.held_fields-f.ensures o.alloc_op.result o.alloc_op.ensures _ (rw (c.in-ConfigLimit.is, c.pair_status.ensures, o.pick-operand.ensures))

pub returns-in-ReadLimit : goal.returns-in-ReadLimit
returns-in-ReadLimit c =
    let o = c.before in
    by_fields _ _ _ _ _ o.held_fields-f.ensures o.alloc_op.result o.alloc_op.ensures _ (rw (c.in-ReadLimit.is, c.pair_status-in-ReadLimit.ensures))

pub returns-in-FlushRcid : goal.returns-in-FlushRcid
returns-in-FlushRcid c =
    let o = c.before in
    by_fields _ _ _ _ _ o.held_fields-f.ensures o.alloc_op.result o.alloc_op.ensures _ (rw (c.in-FlushRcid.is, c.pick.ensures))

pub returns-in-Reserved : goal.returns-in-Reserved
returns-in-Reserved c =
    let o = c.before in
    by_fields _ _ _ _ _ o.held_fields-f.ensures o.alloc_op.result o.alloc_op.ensures _ (rw c.in-Reserved.is)

pub returns-in-Custom : goal.returns-in-Custom
returns-in-Custom c =
    let o = c.before in
    by_fields _ _ _ _ _ o.held_fields-f.ensures o.alloc_op.result o.alloc_op.ensures _ (rw c.in-Custom.is)
