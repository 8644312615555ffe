use Rattle.std.proofs.Common.{rules}
use Rattle.bandwidth_model.specs.Rules.{shared_at_of}
use Rattle.bandwidth_grants.proofs.shared_at.Goals as goal

pub returns : goal.returns
unfolding shared_at_of
returns c = search rules
