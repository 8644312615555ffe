use lib.Bits.{and_mask}
use Rattle.capacity_model.specs.Rules.{mask_of, all_blocks}
use Rattle.capacity_masks.proofs.mask_of.Goals as goal

pub returns : goal.returns
unfolding mask_of all_blocks
returns c = let a = c.args in rw c.all_blocks.ensures (and_mask a.v a.setup.ncblks)
