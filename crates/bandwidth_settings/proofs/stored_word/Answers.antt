use Rattle.bandwidth_model.specs.Rules.{rbwb_of, weight_of, shared_at_of, use_shared_of, sharer_word, stored_form}
use Rattle.bandwidth_settings.proofs.Words.{small, stored_le}
use Rattle.bandwidth_settings.proofs.stored_word.Goals as goal

pub returns : goal.returns
unfolding stored_form sharer_word rbwb_of weight_of shared_at_of use_shared_of
returns c = small _ _ _ (cc) (stored_le c.args.word)
