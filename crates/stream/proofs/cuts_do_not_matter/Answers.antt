use Rattle.stream.proofs.Whole.{claim}
use Rattle.stream.proofs.cuts_do_not_matter.Goals as goal

pub returns : goal.returns
returns c = claim
