use Rattle.bandwidth_model.specs.Model.{lengths_ok}
use Rattle.bandwidth.proofs.Record.lengths_ok.Goals as goal

pub returns : goal.returns
unfolding lengths_ok
returns c = rw c.pairs-pairs.ensures.is
