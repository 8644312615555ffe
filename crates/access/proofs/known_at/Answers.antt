use Rattle.access.specs.Pairs.{known_at}
use Rattle.access.proofs.known_at.Goals as goal

pub returns : goal.returns
unfolding known_at
returns c = cc
