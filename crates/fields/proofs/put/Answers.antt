use Rattle.fields.proofs.Laws.{or_put}
use Rattle.fields.proofs.put.Goals as goal

pub returns : goal.returns
returns c = let a = c.args in
    or_put 64 a.value a.place a.width a.low c.requires.0 c.requires.1.0 c.requires.1.2
