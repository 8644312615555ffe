use Rattle.capacity_model.specs.Calls.{evict}
use Rattle.capacity.proofs.Checks.{passes}
use Rattle.capacity.proofs.Calls.{call_failed, evict_performed}
use Rattle.capacity.proofs.Record.evict.Goals as goal

pub returns-in-Err : goal.returns-in-Err
returns-in-Err c = rw c.refused.ensures (call_failed _ (evict _) tt _ c.in-Err.ensures)

pub evicting-requires : goal.evicting-requires
evicting-requires c = (passes _ c.in_default.ensures).ranges

pub returns : goal.returns
returns c =
    let v = c.evict.ensures in
    rw c.answered.ensures (evict_performed _ _ (c.in_default-evicting.ensures _ _ _ _ c.in_default.ensures) _ _ v.0 v.1)
