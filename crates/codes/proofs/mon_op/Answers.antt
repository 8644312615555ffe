use native.Mathlib.Omega.{arith}
use Rattle.codes.specs.Codes.{mon_ops}
use Rattle.codes.proofs.Rows.{has_in}
use Rattle.codes.proofs.mon_op.Goals as goal

pub returns-in-0 : goal.returns-in-0
unfolding mon_ops
returns-in-0 c = has_in _ _ (omega arith) (omega arith)

pub returns-in-1 : goal.returns-in-1
unfolding mon_ops
returns-in-1 c = has_in _ _ (omega arith) (omega arith)

pub returns-in-2 : goal.returns-in-2
unfolding mon_ops
returns-in-2 c = has_in _ _ (omega arith) (omega arith)

pub returns-in-3-to-23 : goal.returns-in-3-to-23
unfolding mon_ops
returns-in-3-to-23 c = has_in _ _ (omega arith) (omega arith)

pub returns-in-24-to-31 : goal.returns-in-24-to-31
unfolding mon_ops
returns-in-24-to-31 c = has_in _ _ (omega arith) (omega arith)

pub returns-in_default : goal.returns-in_default
unfolding mon_ops
returns-in_default c = has_in _ _ (omega arith) (omega arith)
