use Rattle.monitor.specs.Monitor.{matches_at}
use Rattle.monitor.proofs.matches_at.Goals as goal

pub returns : goal.returns
unfolding matches_at
returns c = cc
