use Rattle.tables.specs.Below.{between}
use Rattle.codes.specs.Codes.{◌has◌, bandwidth_events, capacity_events}
use Rattle.codes.proofs.Rows.{code_of}
use Rattle.monitor.specs.Monitor.{unknown_event}
use Rattle.monitor.proofs.Rows.{reserved_bytes, custom_bytes, reserved_capacity, custom_capacity}
use Rattle.monitor.proofs.status.event_status.Goals as goal

pub returns-in-None : goal.returns-in-None
unfolding unknown_event bandwidth_events ◌has◌ between
returns-in-None c = rw (c.in-Bandwidth.is, code_of 0 c.args.event c.in-None.ensures)

pub returns-in-TotalReadWrite : goal.returns-in-TotalReadWrite
unfolding unknown_event bandwidth_events ◌has◌ between
returns-in-TotalReadWrite c = rw (c.in-Bandwidth.is, code_of 1 c.args.event c.in-TotalReadWrite.ensures)

pub returns-in-TotalRead : goal.returns-in-TotalRead
unfolding unknown_event bandwidth_events ◌has◌ between
returns-in-TotalRead c = rw (c.in-Bandwidth.is, code_of 2 c.args.event c.in-TotalRead.ensures)

pub returns-in-TotalWrite : goal.returns-in-TotalWrite
unfolding unknown_event bandwidth_events ◌has◌ between
returns-in-TotalWrite c = rw (c.in-Bandwidth.is, code_of 3 c.args.event c.in-TotalWrite.ensures)

pub returns-in-Reserved : goal.returns-in-Reserved
returns-in-Reserved c = rw (c.in-Bandwidth.is, (reserved_bytes c.args.event c.in-Reserved.ensures).unknown)

pub returns-in-Custom : goal.returns-in-Custom
returns-in-Custom c = rw (c.in-Bandwidth.is, (custom_bytes c.args.event c.in-Custom.ensures).unknown)

pub returns-in-None-capacity_event : goal.returns-in-None-capacity_event
unfolding unknown_event capacity_events ◌has◌ between
returns-in-None-capacity_event c = rw (c.in-Capacity.is, code_of 0 c.args.event c.in-None-capacity_event.ensures)

pub returns-in-Occupancy : goal.returns-in-Occupancy
unfolding unknown_event capacity_events ◌has◌ between
returns-in-Occupancy c = rw (c.in-Capacity.is, code_of 1 c.args.event c.in-Occupancy.ensures)

pub returns-in-Reserved-capacity_event : goal.returns-in-Reserved-capacity_event
returns-in-Reserved-capacity_event c = rw (c.in-Capacity.is, reserved_capacity c.args.event c.in-Reserved-capacity_event.ensures)

pub returns-in-Custom-capacity_event : goal.returns-in-Custom-capacity_event
returns-in-Custom-capacity_event c = rw (c.in-Capacity.is, custom_capacity c.args.event c.in-Custom-capacity_event.ensures)
