use native.Mathlib.Omega.{arith}
use Rattle.codes.specs.Codes.{alloc_ops}
use Rattle.codes.proofs.Rows.{has_in}
use Rattle.codes.proofs.alloc_op.Goals as goal

pub upper_op-requires : goal.upper_op-requires
unfolding alloc_ops
upper_op-requires c = (omega arith, omega arith)

pub returns-in-0 : goal.returns-in-0
unfolding alloc_ops
returns-in-0 c = has_in _ _ (omega arith) (omega arith)

pub returns-in-1 : goal.returns-in-1
unfolding alloc_ops
returns-in-1 c = has_in _ _ (omega arith) (omega arith)

pub returns-in-2 : goal.returns-in-2
unfolding alloc_ops
returns-in-2 c = has_in _ _ (omega arith) (omega arith)

pub returns-in-3-to-23 : goal.returns-in-3-to-23
unfolding alloc_ops
returns-in-3-to-23 c = c.upper_op.ensures

pub returns-in-24-to-31 : goal.returns-in-24-to-31
unfolding alloc_ops
returns-in-24-to-31 c = has_in _ _ (omega arith) (omega arith)

pub returns-in_default : goal.returns-in_default
unfolding alloc_ops
returns-in_default c = has_in _ _ (omega arith) (omega arith)
