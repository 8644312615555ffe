use Rattle.session.proofs.Laws.{kept_largest}
use Rattle.stream.proofs.Laws.{answered}
use Rattle.stream.proofs.answer.Goals as goal

pub put_line-requires : goal.put_line-requires
put_line-requires c = c.requires.1

pub returns : goal.returns
returns c =
    let a = c.act-reply.ensures in
    record { answers = answered c.parse-command.ensures a.answer c.put_line.ensures; tables = kept_largest _ a.tables }
