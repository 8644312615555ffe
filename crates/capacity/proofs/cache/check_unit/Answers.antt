use mathlib.Core.Path.{refl}
use borrow.Author.Tests.{le-leb, lt-leb}
use Rattle.capacity_model.specs.Model.{unit_checks}
use Rattle.capacity.proofs.cache.check_unit.Goals as goal

pub returns-then-unit_count-unit : goal.returns-then-unit_count-unit
unfolding unit_checks
returns-then-unit_count-unit c = rw (← c.unit_count.ensures.is, le-leb _ _ c.if-unit_count-unit.true) refl

pub returns-else-unit_count-unit : goal.returns-else-unit_count-unit
unfolding unit_checks
returns-else-unit_count-unit c = rw (← c.unit_count.ensures.is, lt-leb _ _ c.if-unit_count-unit.false) refl
