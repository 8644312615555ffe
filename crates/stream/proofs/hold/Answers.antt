use Rattle.std.proofs.Common.{rules}
use Rattle.stream.proofs.Laws.{held_more}
use Rattle.stream.proofs.hold.Goals as goal

pub returns : goal.returns
returns c =
    let a = c.args in
    held_more a.line.now a.part.now c.copy_from_slice.new.self a.start c.min-more.result (search rules) (search rules) c.min-more.ensures c.copy_from_slice.ensures.after
