use Rattle.bandwidth_wellformed.specs.Bits.{form_bits}
use Rattle.bandwidth_wellformed.proofs.settings.form_bits.Goals as goal

pub returns : goal.returns
unfolding form_bits
returns c = cc
