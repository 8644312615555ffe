use Rattle.std.proofs.lemmas.Result.{err_from_is_err_and}
use Rattle.bandwidth_model.specs.Calls.{device_request}
use Rattle.bandwidth_lent.specs.Bytes.{pointers}
use Rattle.bandwidth_bytes.proofs.Calls.{device_asks}
use Rattle.bandwidth_bytes.proofs.request.device_request.Goals as goal

pub request_by-requires : goal.request_by-requires
request_by-requires c = c.in_ok-held.ensures

pub returns-in_err-held : goal.returns-in_err-held
unfolding pointers
returns-in_err-held c =
    let p = err_from_is_err_and c.from_residual.result c.from_residual.ensures.1 in
    rw (p.1, p.2) (c.in_err-held.ensures (device_request _ _ _ _ _) tt)

pub returns : goal.returns
returns c = c.request_by.ensures _ (device_asks _ _ _ _ _ c.identifiers_in-ids.ensures c.out_of_range.ensures)
