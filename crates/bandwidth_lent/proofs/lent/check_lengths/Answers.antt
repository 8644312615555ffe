use mathlib.Core.Path.{sym, ◌∙◌}
use native.Mathlib.Omega.{arith}
use Rattle.tables.proofs.Tests.{of_true}
use Rattle.bandwidth_model.specs.View.{Ranges}
use Rattle.bandwidth_model.proofs.Setup.{ranges}
use Rattle.bandwidth_setup.specs.View.{setup_of}
use Rattle.bandwidth_lent.proofs.Lengths.{wrong_record, wrong_setup, judged}
use Rattle.bandwidth_lent.proofs.lent.check_lengths.Goals as goal

pub returns-then-record-ne96 : goal.returns-then-record-ne96
returns-then-record-ne96 c = wrong_record _ _ c.if-record-ne96.true

pub pairs-requires : goal.pairs-requires
pairs-requires c = ranges _ (of_true (sym c.in_range.ensures ∙ c.if-in_range.true))

pub overflow_mul-fit : goal.overflow_mul-fit
overflow_mul-fit c = let r : Ranges (setup_of _) = ranges _ (of_true (sym c.in_range.ensures ∙ c.if-in_range.true)) in record { fits = omega (arith, r.nm_high) }

pub overflow_mul-fit-then-in_range : goal.overflow_mul-fit-then-in_range
overflow_mul-fit-then-in_range c = let r : Ranges (setup_of _) = ranges _ (of_true (sym c.in_range.ensures ∙ c.if-in_range.true)) in record { fits = omega (arith, r.nm_high) }

pub overflow_mul-fit-then-in_range-2 : goal.overflow_mul-fit-then-in_range-2
overflow_mul-fit-then-in_range-2 c = let r : Ranges (setup_of _) = ranges _ (of_true (sym c.in_range.ensures ∙ c.if-in_range.true)) in record { fits = omega (arith, r.nr_high) }

pub returns-then-fit : goal.returns-then-fit
returns-then-fit c = judged _ _ c.if-record-ne96.false (sym c.in_range.ensures ∙ c.if-in_range.true) c.pairs.ensures.is c.if-fit.true

pub returns-else-fit : goal.returns-else-fit
returns-else-fit c = judged _ _ c.if-record-ne96.false (sym c.in_range.ensures ∙ c.if-in_range.true) c.pairs.ensures.is c.if-fit.false

pub returns-else-in_range : goal.returns-else-in_range
returns-else-in_range c = wrong_setup _ _ c.if-record-ne96.false (sym c.in_range.ensures ∙ c.if-in_range.false)
