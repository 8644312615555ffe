use mathlib.Core.Path.{sym, ◌∙◌}
use native.Mathlib.Omega.{arith}
use Rattle.tables.proofs.Tests.{of_true}
use Rattle.capacity_model.specs.View.{Ranges}
use Rattle.capacity_model.proofs.Setup.{ranges}
use Rattle.capacity_masks.specs.View.{setup_of}
use Rattle.capacity_bytes.specs.Bytes.{bytes_fit}
use Rattle.capacity_bytes.proofs.Lengths.{wrong_record, wrong_setup, lengths_tested}
use Rattle.capacity_bytes.proofs.lent.check_lengths.Goals as goal

pub returns-then-record-ne-RECORD_BYTES : goal.returns-then-record-ne-RECORD_BYTES
returns-then-record-ne-RECORD_BYTES c = wrong_record _ _ c.if-record-ne-RECORD_BYTES.true

pub returns-then-not-in_range : goal.returns-then-not-in_range
returns-then-not-in_range c = wrong_setup _ _ c.if-record-ne-RECORD_BYTES.false (sym c.in_range.ensures ∙ c.if-not-in_range.true)

pub pairs-pairs-requires : goal.pairs-pairs-requires
pairs-pairs-requires c = ranges _ (of_true (sym c.in_range.ensures ∙ c.if-not-in_range.false))

pub unit_count-units-requires : goal.unit_count-units-requires
unit_count-units-requires c = ranges _ (of_true (sym c.in_range.ensures ∙ c.if-not-in_range.false))

pub overflow_mul-fit-2 : goal.overflow_mul-fit-2
overflow_mul-fit-2 c = let r : Ranges (setup_of _) = ranges _ (of_true (sym c.in_range.ensures ∙ c.if-not-in_range.false)) in record { fits = omega (arith, r.nm_high) }

pub overflow_mul-fit-3 : goal.overflow_mul-fit-3
overflow_mul-fit-3 c = let r : Ranges (setup_of _) = ranges _ (of_true (sym c.in_range.ensures ∙ c.if-not-in_range.false)) in record { fits = omega (arith, r.nm_high) }

pub returns-then-fit : goal.returns-then-fit
unfolding bytes_fit
returns-then-fit c =
    let fit = rw (c.pairs-pairs.ensures.is, c.unit_count-units.ensures.is) at c.if-fit.true in
    lengths_tested _ _ c.if-record-ne-RECORD_BYTES.false (sym c.in_range.ensures ∙ c.if-not-in_range.false) _ (sym fit)

pub returns-else-fit : goal.returns-else-fit
unfolding bytes_fit
returns-else-fit c =
    let fit = rw (c.pairs-pairs.ensures.is, c.unit_count-units.ensures.is) at c.if-fit.false in
    lengths_tested _ _ c.if-record-ne-RECORD_BYTES.false (sym c.in_range.ensures ∙ c.if-not-in_range.false) _ (sym fit)
