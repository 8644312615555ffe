use Rattle.monitor.specs.Bytes.{counts_request}
use Rattle.monitor.proofs.counts_request.Goals as goal

pub returns : goal.returns
unfolding counts_request
returns c = cc
