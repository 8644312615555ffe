use Rattle.units.specs.Owners.{owner_word}
use Rattle.unit_tables.proofs.Steps.{owner_fits}
use Rattle.unit_tables.proofs.owner.owner_word.Goals as goal

pub pack-requires : goal.pack-requires
pack-requires c = owner_fits _ _ _ c.requires

pub returns : goal.returns
unfolding owner_word
returns c = c.pack.ensures
