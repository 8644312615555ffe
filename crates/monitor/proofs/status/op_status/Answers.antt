use Rattle.tables.specs.Below.{between}
use Rattle.codes.specs.Codes.{◌has◌, mon_ops}
use Rattle.codes.proofs.Rows.{code_of, reserved_op, custom_op}
use Rattle.monitor.specs.Monitor.{invalid_op}
use Rattle.monitor.proofs.status.op_status.Goals as goal

pub returns-in-ReservedZero : goal.returns-in-ReservedZero
unfolding invalid_op mon_ops ◌has◌ between
returns-in-ReservedZero c = rw (code_of 0 c.args.ctl.op c.in-ReservedZero.ensures)

pub returns-in-ConfigEvent : goal.returns-in-ConfigEvent
unfolding invalid_op mon_ops ◌has◌ between
returns-in-ConfigEvent c = rw (code_of 1 c.args.ctl.op c.in-ConfigEvent.ensures, c.pick.ensures)

pub returns-in-ReadCounter : goal.returns-in-ReadCounter
unfolding invalid_op mon_ops ◌has◌ between
returns-in-ReadCounter c = rw (code_of 2 c.args.ctl.op c.in-ReadCounter.ensures, c.pick-in-ReadCounter.ensures)

pub returns-in-Reserved : goal.returns-in-Reserved
unfolding invalid_op mon_ops ◌has◌ between
returns-in-Reserved c = rw (reserved_op c.args.ctl.op c.in-Reserved.ensures).invalid

pub returns-in-Custom : goal.returns-in-Custom
unfolding invalid_op mon_ops ◌has◌ between
returns-in-Custom c = rw (custom_op c.args.ctl.op c.in-Custom.ensures).invalid
