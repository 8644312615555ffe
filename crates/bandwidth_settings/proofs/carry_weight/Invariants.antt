use Rattle.bandwidth_settings.proofs.Words.{CarriedBelow}
use Rattle.bandwidth_settings.proofs.carry_weight.Given as goal

abbrev pub invariant-loop-w : goal.invariant-loop-w
invariant-loop-w l = CarriedBelow l.weight l.initial.row l.row l.w-index
