use Rattle.bandwidth_wellformed.proofs.Passes.{at_most_next}
use Rattle.bandwidth_wellformed.proofs.parts.union32.Goals as goal

pub loop-w-preserved : goal.loop-w-preserved
loop-w-preserved c = at_most_next _ _ _ c.loop-w.invariant
