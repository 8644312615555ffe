use mathlib.Core.Path.{refl}
use Rattle.capacity_model.specs.Model.{fill_checks}
use Rattle.capacity.proofs.cache.check_fill.Goals as goal

pub returns-then-setup-rcid : goal.returns-then-setup-rcid
unfolding fill_checks
returns-then-setup-rcid c = rw c.if-setup-rcid.true refl

pub returns-else-setup-rcid : goal.returns-else-setup-rcid
unfolding fill_checks
returns-else-setup-rcid c = rw c.if-setup-rcid.false c.check_unit.ensures
