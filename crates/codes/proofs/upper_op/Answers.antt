use native.Mathlib.Omega.{arith}
use Rattle.codes.specs.Codes.{alloc_ops}
use Rattle.codes.proofs.Rows.{has_in}
use Rattle.codes.proofs.upper_op.Goals as goal

pub returns-in-Bandwidth : goal.returns-in-Bandwidth
unfolding alloc_ops
returns-in-Bandwidth c = rw c.in-Bandwidth.is (has_in _ _ (omega arith) (omega arith))

pub returns-then-op-eq3 : goal.returns-then-op-eq3
unfolding alloc_ops
returns-then-op-eq3 c = rw c.in-Capacity.is (has_in _ _ (omega arith) (omega arith))

pub returns-else-op-eq3 : goal.returns-else-op-eq3
unfolding alloc_ops
returns-else-op-eq3 c = rw c.in-Capacity.is (has_in _ _ (omega arith) (omega arith))
