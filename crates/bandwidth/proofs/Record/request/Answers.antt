use Rattle.bandwidth_model.proofs.Devices.{request_is}
use Rattle.bandwidth.proofs.Record.request.Goals as goal

pub returns : goal.returns
returns c = c.request_by-answer.ensures _ (request_is _ _ _ _ _)
