use mathlib.Core.Path.{refl}
use Rattle.capacity_model.specs.Rules.{has_block}
use Rattle.capacity_masks.proofs.has_block.Goals as goal

pub returns : goal.returns
unfolding has_block
returns c = refl
