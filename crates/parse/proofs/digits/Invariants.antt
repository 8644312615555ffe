use mathlib.Core.Path.{◌≡◌}
use lib.ListN.{drop}
use Rattle.parse.specs.View.{word_from}
use Rattle.parse.proofs.digits.Given as goal

abbrev pub invariant-loop-i : goal.invariant-loop-i
invariant-loop-i g l = word_from g.row.BASE l.number (drop l.i l.line) ≡ word_from g.row.BASE l.start (drop l.from l.line)
