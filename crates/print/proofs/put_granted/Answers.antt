use Rattle.print.specs.Print.{text_of}
use Rattle.print.proofs.Laws.{wrote_both}
use Rattle.print.proofs.put_granted.Goals as goal

pub returns : goal.returns
unfolding text_of
returns c =
    let d = c.before in
    let p = d.before in
    wrote_both (wrote_both p.put_decimal-gap.ensures p.put-end.ensures) d.put_decimal.ensures
