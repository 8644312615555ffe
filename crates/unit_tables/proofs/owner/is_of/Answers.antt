use Rattle.units.specs.Owners.{is_owned, of_rcid}
use Rattle.unit_tables.proofs.owner.is_of.Goals as goal

pub returns : goal.returns
unfolding of_rcid is_owned
returns c = cc
