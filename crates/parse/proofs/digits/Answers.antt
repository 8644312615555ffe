use mathlib.Core.Path.{◌≡◌, ◌∙◌}
use Prim.Native.Nat.{◌+◌, ◌*◌}
use native.Mathlib.Omega.{arith}
use Rattle.parse.proofs.Laws.{digit_is, no_digit, too_large, digit_more, word_space, word_end}
use Rattle.parse.proofs.digits.Goals as goal

pub returns-then-b-eq32 : goal.returns-then-b-eq32
returns-then-b-eq32 g c =
    let l = c.loop-i in
    word_space g.row.BASE l.number l.i c.args.line.now (omega arith) c.if-b-eq32.true ∙ l.invariant

pub returns-else-b-eq32 : goal.returns-else-b-eq32
returns-else-b-eq32 g c =
    let l = c.loop-i in
    let e = digit_is g.row.BASE c.from.result c.to_digit.result c.to_digit.ensures.value in
    no_digit g.row.BASE l.i c.args.line.now (omega arith) l.number (rw (c.in_default.is, c.from.ensures) at e) c.if-b-eq32.false ∙ l.invariant

pub returns-in_err-checked_mul : goal.returns-in_err-checked_mul
returns-in_err-checked_mul g c =
    let l = c.loop-i in
    let e = digit_is g.row.BASE c.from.result c.to_digit.result c.to_digit.ensures.value in
    let n = rw c.from-in-loop-i.ensures at c.in_err-checked_mul.ensures in
    rw c.from_residual.ensures (too_large g.row.BASE l.i c.args.line.now (omega arith) c.in-Some.d c.requires.1 (rw (c.in-Some.is, c.from.ensures) at e) l.number (omega (arith, n))) ∙ l.invariant

pub returns-in_err-number : goal.returns-in_err-number
returns-in_err-number g c =
    let l = c.loop-i in
    let e = digit_is g.row.BASE c.from.result c.to_digit.result c.to_digit.ensures.value in
    let m = rw c.from-in-loop-i.ensures at c.in_ok-checked_mul.ensures.1 in
    rw c.from_residual-in_err-number.ensures (too_large g.row.BASE l.i c.args.line.now (omega arith) c.in-Some.d c.requires.1 (rw (c.in-Some.is, c.from.ensures) at e) l.number (omega (arith, m, c.in_err-number.ensures))) ∙ l.invariant

pub loop-i-preserved : goal.loop-i-preserved
loop-i-preserved g c =
    let l = c.loop-i in
    let e = digit_is g.row.BASE c.from.result c.to_digit.result c.to_digit.ensures.value in
    let m = rw c.from-in-loop-i.ensures at c.in_ok-checked_mul.ensures.1 in
    let p : l.number * g.row.BASE + c.in-Some.d ≡ c.in_ok-number.number = omega (arith, m, c.in_ok-number.ensures) in
    rw (← p) (digit_more g.row.BASE l.i c.args.line.now (omega arith) c.in-Some.d c.requires.1 (rw (c.in-Some.is, c.from.ensures) at e) l.number (omega (arith, m, c.in_ok-number.ensures))) ∙ l.invariant

pub returns : goal.returns
returns g c =
    let l = c.loop-i in
    word_end g.row.BASE l.number l.i c.args.line.now (omega arith) ∙ l.invariant
