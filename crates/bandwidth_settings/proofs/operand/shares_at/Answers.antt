use Rattle.bandwidth_model.specs.Rules.{shared_at_of}
use Rattle.bandwidth_settings.specs.Rows.{shares_in}
use Rattle.bandwidth_settings.proofs.operand.shares_at.Goals as goal

pub returns : goal.returns
unfolding shares_in shared_at_of
returns c = cc
