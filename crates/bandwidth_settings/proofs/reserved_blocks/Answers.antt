use Rattle.bandwidth_model.specs.Rules.{rbwb_of, reserved}
use Rattle.bandwidth_model.proofs.Words.{reserved_le}
use Rattle.bandwidth_settings.proofs.Words.{small}
use Rattle.bandwidth_settings.proofs.reserved_blocks.Goals as goal

pub returns : goal.returns
unfolding reserved rbwb_of
returns c = small _ _ _ (cc) (reserved_le c.args.word)
