use Rattle.bandwidth_model.proofs.Devices.{device_is}
use Rattle.bandwidth.proofs.Record.device_request.Goals as goal

pub returns : goal.returns
returns c =
    c.request_by-answer.ensures _ (device_is _ _ _ _ _ c.identifiers_in-ids.ensures c.out_of_range.ensures)
