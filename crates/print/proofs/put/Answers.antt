use Rattle.print.proofs.Laws.{put_there}
use Rattle.print.proofs.put.Goals as goal

pub returns : goal.returns
returns c = let a = c.args in put_there a.out.now c.copy_from_slice.new.self a.text.now a.at c.requires c.copy_from_slice.ensures.after
