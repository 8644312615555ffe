use Rattle.access.specs.Access.{part}
use Rattle.access.proofs.part.Goals as goal

pub returns : goal.returns
unfolding part
returns c = rw (c.pick-2.ensures, c.pick.ensures)
