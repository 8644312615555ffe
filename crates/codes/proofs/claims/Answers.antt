use Rattle.codes.proofs.Tables.{tables}
use Rattle.codes.proofs.claims.Goals as goal

pub returns : goal.returns
returns c = tables
