use Rattle.capacity_model.specs.Model.{lengths_ok}
use Rattle.capacity.proofs.Record.lengths_ok.Goals as goal

pub returns : goal.returns
unfolding lengths_ok
returns c = cc (c.pairs-pairs.ensures.is, c.unit_count-units.ensures.is)
