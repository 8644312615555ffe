use mathlib.Core.Path.{sym}
use Rattle.tables.proofs.Tests.{of_true, of_false}
use Rattle.bandwidth_model.proofs.Setup.{ranges}
use Rattle.access.proofs.Checks.{check_1, check_2}
use Rattle.bandwidth.proofs.Checks.{sized, checked_by}
use Rattle.bandwidth.proofs.Record.check.Goals as goal

pub returns-then-not-in_range : goal.returns-then-not-in_range
returns-then-not-in_range c = check_1 _ _ _ (of_false (sym c.if-not-in_range.ensures))

pub lengths_ok-requires : goal.lengths_ok-requires
lengths_ok-requires c = ranges _ (of_true (sym c.if-not-in_range.ensures))

pub returns-then-not-lengths_ok : goal.returns-then-not-lengths_ok
returns-then-not-lengths_ok c = check_2 _ _ _ (of_true (sym c.if-not-in_range.ensures)) (of_false (sym c.if-not-lengths_ok.ensures))

pub tables_ok-tables-requires : goal.tables_ok-tables-requires
tables_ok-tables-requires c = (ranges _ (of_true (sym c.if-not-in_range.ensures)), sized _ _ (of_true (sym c.if-not-lengths_ok.ensures)))

pub state_ok-requires : goal.state_ok-requires
state_ok-requires c = ranges _ (of_true (sym c.if-not-in_range.ensures))

pub returns : goal.returns
returns c =
    rw c.ok_or.ensures.value
    (checked_by _ _ (of_true (sym c.if-not-in_range.ensures)) (of_true (sym c.if-not-lengths_ok.ensures))
    (c.state_ok.ensures _ _ _ _ _ _ c.tables_ok-tables.ensures))
