use mathlib.Core.Path.{refl, sym, ◌∙◌}
use Rattle.tables.proofs.Tests.{of_true}
use Rattle.access.specs.Checks.{setup_checks}
use Rattle.capacity_model.proofs.Setup.{ranges}
use Rattle.capacity.proofs.Record.check_setup.Goals as goal

pub lengths_ok-requires : goal.lengths_ok-requires
lengths_ok-requires c = ranges _ (of_true (sym c.in_range.ensures ∙ c.if-not-in_range.false))

pub returns-then-not-in_range : goal.returns-then-not-in_range
unfolding setup_checks
returns-then-not-in_range c = rw (← c.in_range.ensures, c.if-not-in_range.true) refl

pub returns-then-lengths_ok : goal.returns-then-lengths_ok
unfolding setup_checks
returns-then-lengths_ok c = rw (← c.in_range.ensures, c.if-not-in_range.false, ← c.lengths_ok.ensures, c.if-lengths_ok.true) refl

pub returns-else-lengths_ok : goal.returns-else-lengths_ok
unfolding setup_checks
returns-else-lengths_ok c = rw (← c.in_range.ensures, c.if-not-in_range.false, ← c.lengths_ok.ensures, c.if-lengths_ok.false) refl
