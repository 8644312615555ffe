use Rattle.bandwidth_model.specs.Model.{capabilities}
use Rattle.bandwidth.proofs.Record.capabilities.Goals as goal

pub returns : goal.returns
unfolding capabilities
returns c = c.pack.ensures
