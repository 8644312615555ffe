use mathlib.Core.Path.{sym}
use Rattle.std.proofs.lemmas.Result.{err_from_is_err_and}
use Rattle.bandwidth_lent.proofs.Lengths.{long, in_range}
use Rattle.bandwidth_lent.proofs.Resets.{reset_refused, reset_done}
use Rattle.bandwidth_lent.proofs.reset.reset.Goals as goal

pub returns-in_err-check_lengths : goal.returns-in_err-check_lengths
returns-in_err-check_lengths c =
    let p = err_from_is_err_and c.from_residual.result c.from_residual.ensures.1 in
    rw (p.1, p.2) (reset_refused _ _ c.in_err-check_lengths.field-0.0 c.in_err-check_lengths.ensures)

pub store_record-requires : goal.store_record-requires
store_record-requires c = (long _ _ (sym c.in_ok-check_lengths.ensures)).record_long

pub reset_tables-requires : goal.reset_tables-requires
reset_tables-requires c = let z = sym c.in_ok-check_lengths.ensures in (in_range _ _ z, (long _ _ z).tables)

pub returns : goal.returns
returns c = reset_done _ _ (sym c.in_ok-check_lengths.ensures) _ _ _ _ _ _ _ (rw c.fresh.ensures at c.store_record.ensures) c.reset_tables.ensures
