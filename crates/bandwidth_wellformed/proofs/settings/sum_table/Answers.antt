use Rattle.std.proofs.Common.{rules}
use Rattle.tables.proofs.Tests.{of_true}
use Rattle.bandwidth_wellformed.proofs.Passes.{zeros_summed}
use Rattle.bandwidth_wellformed.proofs.settings.sum_table.Goals as goal

pub returns-then-all_zero : goal.returns-then-all_zero
returns-then-all_zero c = zeros_summed _ _ _ (rw c.requires.long (c.all_zero.ensures (of_true c.if-all_zero.true)))

pub rows_ok-right-requires : goal.rows_ok-right-requires
rows_ok-right-requires c = (search rules, c.scan_words-s.ensures.any_is)

pub returns : goal.returns
returns c =
    let long = c.requires.long in
    let e = c.scan_words-s.ensures in
    record { form = rw long e.form_is; rows = c.rows_ok-right.ensures; blocks = rw long e.blocks_are }
