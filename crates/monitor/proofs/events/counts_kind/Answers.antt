use mathlib.Core.Bool.{or-false}
use Rattle.tables.specs.Below.{between}
use Rattle.codes.specs.Codes.{◌has◌, bandwidth_events}
use Rattle.codes.proofs.Rows.{code_of}
use Rattle.monitor.specs.Bytes.{counts_kind}
use Rattle.monitor.proofs.Rows.{reserved_bytes, custom_bytes}
use Rattle.monitor.proofs.events.counts_kind.Goals as goal

pub returns-in-None : goal.returns-in-None
unfolding counts_kind bandwidth_events ◌has◌ between
returns-in-None c = rw (code_of 0 c.args.event c.in-None.ensures)

pub returns-in-TotalReadWrite : goal.returns-in-TotalReadWrite
unfolding counts_kind bandwidth_events ◌has◌ between
returns-in-TotalReadWrite c = rw (code_of 1 c.args.event c.in-TotalReadWrite.ensures)

pub returns-in-TotalRead : goal.returns-in-TotalRead
unfolding counts_kind bandwidth_events ◌has◌ between
returns-in-TotalRead c = rw (code_of 2 c.args.event c.in-TotalRead.ensures, or-false)

pub returns-in-TotalWrite : goal.returns-in-TotalWrite
unfolding counts_kind bandwidth_events ◌has◌ between
returns-in-TotalWrite c = rw (code_of 3 c.args.event c.in-TotalWrite.ensures)

pub returns-in-Reserved : goal.returns-in-Reserved
unfolding counts_kind bandwidth_events ◌has◌ between
returns-in-Reserved c = rw ((reserved_bytes c.args.event c.in-Reserved.ensures).kinds _)

pub returns-in-Custom : goal.returns-in-Custom
unfolding counts_kind bandwidth_events ◌has◌ between
returns-in-Custom c = rw ((custom_bytes c.args.event c.in-Custom.ensures).kinds _)
