use Rattle.bandwidth_model.specs.Rules.{use_shared_of, is_holder}
use Rattle.bandwidth_settings.proofs.is_holder.Goals as goal

pub returns : goal.returns
unfolding is_holder use_shared_of
returns c = cc
