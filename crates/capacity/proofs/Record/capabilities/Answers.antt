use Rattle.capacity_model.specs.Model.{capabilities}
use Rattle.capacity.proofs.Record.capabilities.Goals as goal

pub returns : goal.returns
unfolding capabilities
returns c = cc
