use Rattle.capacity_model.specs.Calls.{write}
use Rattle.capacity.proofs.Checks.{passes}
use Rattle.capacity.proofs.Calls.{call_failed}
use Rattle.capacity.proofs.Record.write.Goals as goal

pub returns-in-Err : goal.returns-in-Err
returns-in-Err c = rw c.refused.ensures (call_failed _ (write _ _ _) tt _ c.in-Err.ensures)

pub named_pair-p-requires : goal.named_pair-p-requires
named_pair-p-requires c = (passes _ c.in_default.ensures).ranges

pub write_words-requires : goal.write_words-requires
write_words-requires c = (passes _ c.in_default.ensures).ranges
