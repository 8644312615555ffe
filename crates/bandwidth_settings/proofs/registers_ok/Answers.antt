use Rattle.bandwidth_model.specs.Model.{registers_ok}
use Rattle.bandwidth_settings.proofs.registers_ok.Goals as goal

pub returns : goal.returns
unfolding registers_ok
returns c = cc
