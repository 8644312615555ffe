use mathlib.Core.Path.{refl}
use Rattle.capacity_masks.specs.View.{setup_of}
use Rattle.capacity_masks.proofs.Words.{block_in}
use Rattle.capacity_model.specs.Rules.{block_of}
use Rattle.capacity_masks.proofs.setup.Setup.block_of.Goals as goal

pub returns : goal.returns
unfolding block_of
returns c = let s = c.before in (refl, block_in (setup_of s.args.self) s.args.unit s.requires.0 s.requires.1)
