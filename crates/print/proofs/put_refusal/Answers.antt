use Rattle.print.specs.Print.{text_of}
use Rattle.print.proofs.Laws.{wrote_both}
use Rattle.print.proofs.put_refusal.Goals as goal

pub returns : goal.returns
unfolding text_of
returns c = wrote_both c.put-end.ensures c.put_decimal.ensures
