use Rattle.capacity_masks.specs.View.{setup_of}
use Rattle.capacity_masks.proofs.Words.{masks_test}
use Rattle.capacity_masks.proofs.union_ok.Goals as goal

pub returns : goal.returns
returns c = λ n f e. rw (e, c.all_blocks.ensures) (masks_test (setup_of c.args.setup) n f)
