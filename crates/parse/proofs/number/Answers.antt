use mathlib.Core.Path.{◌∙◌}
use native.Mathlib.Omega.{arith}
use Rattle.parse.proofs.Laws.{digit_is, word_none, no_first, first_more}
use Rattle.parse.proofs.number.Goals as goal

pub returns-in_err-get : goal.returns-in_err-get
returns-in_err-get g c = rw c.from_residual.ensures (word_none g.row.BASE c.args.from c.args.line.now c.in_err-get.ensures.lookup.3)

pub returns-in_err-first : goal.returns-in_err-first
returns-in_err-first g c =
    let b = c.in_ok-get.ensures.lookup.3 in
    let e = digit_is g.row.BASE c.from.result c.to_digit.result c.to_digit.ensures.value in
    rw c.from_residual-in_err-first.ensures (no_first g.row.BASE c.args.from c.args.line.now b.0 (rw (c.in_err-first.was, c.from.ensures, b.1 0) at e))

pub returns : goal.returns
returns g c =
    let b = c.in_ok-get.ensures.lookup.3 in
    let e = digit_is g.row.BASE c.from.result c.to_digit.result c.to_digit.ensures.value in
    rw c.from-2.ensures at c.digits.ensures ∙ first_more g.row.BASE c.args.from c.args.line.now b.0 c.in_ok-first.first c.requires.1 (rw (c.in_ok-first.was, c.from.ensures, b.1 0) at e) (omega arith)
