use Rattle.bandwidth_model.proofs.Claim.{demand3, answering, counting, register_reads, statuses, alloc_by_number}
use Rattle.bandwidth_model.proofs.Deadline.{deadline}
use Rattle.bandwidth_model.proofs.Devices.{device_requests}
use Rattle.bandwidth_model.proofs.Cases.{cases}
use Rattle.bandwidth_model.proofs.Operands.{operands}
use Rattle.bandwidth_model.proofs.claims.Goals as goal

pub returns : goal.returns
returns c = record {
  demand3 = demand3;
  answers = answering;
  counters = counting;
  registers = register_reads;
  statuses = statuses;
  numbers = alloc_by_number;
  deadline = deadline;
  devices = device_requests;
  cases = cases;
  operands = operands;
}
