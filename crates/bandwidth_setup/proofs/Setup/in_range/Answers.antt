use mathlib.Core.Path.{refl}
use Rattle.tables.specs.Below.{between}
use Rattle.bandwidth_model.specs.Rules.{setup_ok}
use Rattle.bandwidth_setup.proofs.Setup.in_range.Goals as goal

pub returns : goal.returns
unfolding between setup_ok
returns c = refl
