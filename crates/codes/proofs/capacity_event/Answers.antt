use native.Mathlib.Omega.{arith}
use Rattle.codes.specs.Codes.{capacity_events}
use Rattle.codes.proofs.Rows.{has_in}
use Rattle.codes.proofs.capacity_event.Goals as goal

pub returns-in-0 : goal.returns-in-0
unfolding capacity_events
returns-in-0 c = has_in _ _ (omega arith) (omega arith)

pub returns-in-1 : goal.returns-in-1
unfolding capacity_events
returns-in-1 c = has_in _ _ (omega arith) (omega arith)

pub returns-in-2-to-127 : goal.returns-in-2-to-127
unfolding capacity_events
returns-in-2-to-127 c = has_in _ _ (omega arith) (omega arith)

pub returns-in-128-to-255 : goal.returns-in-128-to-255
unfolding capacity_events
returns-in-128-to-255 c = has_in _ _ (omega arith) (omega arith)

pub returns-in_default : goal.returns-in_default
unfolding capacity_events
returns-in_default c = has_in _ _ (omega arith) (omega arith)
