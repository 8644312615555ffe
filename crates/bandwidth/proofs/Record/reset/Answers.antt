use mathlib.Core.Path.{sym}
use Rattle.tables.proofs.Tests.{of_true}
use Rattle.bandwidth_model.proofs.Setup.{ranges}
use Rattle.bandwidth.proofs.Checks.{sized}
use Rattle.bandwidth.proofs.Calls.{reset_0, reset_1, reset_2}
use Rattle.bandwidth.proofs.Record.reset.Goals as goal

pub returns-then-not-in_range : goal.returns-then-not-in_range
returns-then-not-in_range c = rw c.refused.ensures (reset_1 _ _ c.if-not-in_range.ensures)

pub lengths_ok-requires : goal.lengths_ok-requires
lengths_ok-requires c = ranges _ (of_true (sym c.if-not-in_range.ensures))

pub returns-then-not-lengths_ok : goal.returns-then-not-lengths_ok
returns-then-not-lengths_ok c = rw c.refused-then-not-lengths_ok.ensures (reset_2 _ _ c.if-not-in_range.ensures c.if-not-lengths_ok.ensures)

pub reset_tables-requires : goal.reset_tables-requires
reset_tables-requires c = (ranges _ (of_true (sym c.if-not-in_range.ensures)), sized _ _ (of_true (sym c.if-not-lengths_ok.ensures)))

pub returns : goal.returns
returns c = rw (c.answered.ensures, c.fresh.ensures) (reset_0 _ _ c.if-not-in_range.ensures c.if-not-lengths_ok.ensures _ _ _ _ _ _ c.reset_tables.ensures)
