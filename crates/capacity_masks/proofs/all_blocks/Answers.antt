use Rattle.capacity_model.specs.Rules.{all_blocks}
use Rattle.capacity_masks.proofs.all_blocks.Goals as goal

pub returns : goal.returns
unfolding all_blocks
returns c = cc
