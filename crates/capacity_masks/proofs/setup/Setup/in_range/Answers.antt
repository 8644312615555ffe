use mathlib.Core.Path.{refl}
use Rattle.tables.specs.Below.{between}
use Rattle.capacity_model.specs.Rules.{setup_ok}
use Rattle.capacity_masks.proofs.setup.Setup.in_range.Goals as goal

pub returns : goal.returns
unfolding between setup_ok
returns c = refl
