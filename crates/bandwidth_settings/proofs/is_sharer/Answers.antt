use Rattle.bandwidth_model.specs.Rules.{use_shared_of, is_sharer}
use Rattle.bandwidth_settings.proofs.is_sharer.Goals as goal

pub returns : goal.returns
unfolding is_sharer use_shared_of
returns c = cc
