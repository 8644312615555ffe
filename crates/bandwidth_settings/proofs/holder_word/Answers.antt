use Rattle.bandwidth_model.specs.Rules.{holder_word}
use Rattle.bandwidth_settings.proofs.holder_word.Goals as goal

pub returns : goal.returns
unfolding holder_word
returns c = cc
