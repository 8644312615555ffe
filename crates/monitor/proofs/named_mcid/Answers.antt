use Rattle.monitor.specs.Monitor.{mcid_of}
use Rattle.monitor.proofs.named_mcid.Goals as goal

pub returns : goal.returns
unfolding mcid_of
returns c = c.field.ensures
