use Rattle.bandwidth_model.specs.Rules.{bw_word}
use Rattle.bandwidth_settings.proofs.Words.{small, bw_le}
use Rattle.bandwidth_settings.proofs.bw_word.Goals as goal

pub returns : goal.returns
unfolding bw_word
returns c = small _ _ _ (cc) (bw_le c.args.v)
