use Rattle.runs.proofs.Numbers.{by_number}
use Rattle.runs.proofs.claims.Goals as goal

pub returns : goal.returns
returns c = by_number
