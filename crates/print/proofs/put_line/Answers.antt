use native.Mathlib.Omega.{arith}
use Rattle.print.specs.Print.{line_of}
use Rattle.print.proofs.Laws.{wrote_byte}
use Rattle.print.proofs.put_line.Goals as goal

pub returns : goal.returns
unfolding line_of
returns c = wrote_byte 10 (omega arith) c.put_text-end.ensures
