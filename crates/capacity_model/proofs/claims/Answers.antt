use Rattle.capacity_model.proofs.Claim.{claims, answering, counting, register_reads, statuses, alloc_by_number}
use Rattle.capacity_model.proofs.Occupied.{occupied}
use Rattle.capacity_model.proofs.Cases.{cases}
use Rattle.capacity_model.proofs.claims.Goals as goal

pub returns : goal.returns
returns c = record {
  masks = claims;
  answers = answering;
  counters = counting;
  occupied = occupied;
  registers = register_reads;
  statuses = statuses;
  numbers = alloc_by_number;
  cases = cases;
}
