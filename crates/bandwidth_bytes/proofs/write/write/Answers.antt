use Rattle.std.proofs.lemmas.Result.{err_from_is_err_and}
use Rattle.bandwidth_model.specs.Calls.{write}
use Rattle.bandwidth_lent.specs.Bytes.{pointers}
use Rattle.bandwidth_bytes.proofs.Calls.{write_refused, written}
use Rattle.bandwidth_bytes.proofs.write.write.Goals as goal

pub returns-in_err-held : goal.returns-in_err-held
unfolding pointers
returns-in_err-held c =
    let p = err_from_is_err_and c.from_residual.result c.from_residual.ensures.1 in
    rw (p.1, p.2) (c.in_err-held.ensures (write _ _ _) tt)

pub returns-in_err-check_write : goal.returns-in_err-check_write
returns-in_err-check_write c =
    let p = err_from_is_err_and c.from_residual-in_err-check_write.result c.from_residual-in_err-check_write.ensures.1 in
    rw (p.1, p.2) (write_refused c.in_ok-held.ensures _ _ _ c.in_err-check_write.field-0.0 c.in_err-check_write.ensures)

pub store-next-requires : goal.store-next-requires
store-next-requires c = c.in_ok-held.ensures

pub store_record-requires : goal.store_record-requires
store_record-requires c = c.in_ok-held.ensures.long.record_long

pub returns : goal.returns
returns c = written c.in_ok-held.ensures _ _ _ _ _ _ _ _ _ _ _ c.in_ok-check_write.ensures c.store_record.ensures c.store-next.ensures
