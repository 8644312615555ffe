use Rattle.tables.specs.Below.{between}
use Rattle.bandwidth_model.specs.Rules.{setup_ok}
use Rattle.session.specs.View.{controller_of}
use Rattle.stream.proofs.Whole.{start_is}
use Rattle.stream.proofs.State.start.Goals as goal

pub returns : goal.returns
unfolding controller_of setup_ok between
returns c = λ active configured used counters events waiters. rw c.fresh.ensures start_is
