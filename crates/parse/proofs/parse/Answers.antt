use mathlib.Core.Path.{◌∙◌}
use native.Mathlib.Omega.{arith}
use Rattle.parse.proofs.Laws.{parse_empty, parse_short}
use Rattle.parse.proofs.parse.Goals as goal

pub returns-in_err-first : goal.returns-in_err-first
returns-in_err-first c = rw c.from_residual.ensures (parse_empty c.args.line.now (omega (arith, c.in_err-first.ensures.item.3)))

pub returns : goal.returns
returns c = rw (c.in_ok-first.ensures.item.3.1 0) at c.parse_by.ensures ∙ parse_short c.args.line.now (omega arith)
