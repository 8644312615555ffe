use mathlib.Core.Path.{◌≡◌, sym, ◌∙◌}
use mathlib.Core.List.{List}
use Prim.Native.Nat.{ℕ}
use native.Mathlib.Omega.{arith}
use lib.Seq.{take_all}
use lib.ListN.{length, take, length-set}
use borrow.Author.Tests.{le-leb, lt-leb}
use Rattle.parse.proofs.Laws.{fields_none, fields_more, fields_end}
use Rattle.parse.proofs.all_numbers.Goals as goal

pub returns-in_err-number : goal.returns-in_err-number
returns-in_err-number g c =
    let l = c.loop-i in
    rw c.from_residual.ensures (fields_none c.args.decimals g.row.N l.i l.at l.numbers c.args.line.now (omega arith) (omega arith) c.in_err-number.ensures) ∙ sym l.invariant.1

pub loop-i-preserved : goal.loop-i-preserved
loop-i-preserved g c =
    let l = c.loop-i in (
      simp length-set l.invariant.0,
      l.invariant.1 ∙ fields_more c.args.decimals g.row.N l.i l.at l.numbers c.args.line.now (omega arith) (omega arith) _ _ c.in_ok-number.ensures,
    )

-- the numbers of all fields
whole : (numbers : List ℕ) (n : ℕ) → length numbers ≡ n → take n numbers ≡ numbers
whole numbers n e = take_all n numbers (omega arith)

pub returns-then-at-line : goal.returns-then-at-line
returns-then-at-line g c =
    let l = c.loop-i in
    let e = fields_end c.args.decimals g.row.N l.i l.at l.numbers c.args.line.now (omega arith) in
    rw (le-leb (length c.args.line.now) l.at c.if-at-line.true, whole l.numbers g.row.N l.invariant.0) at e ∙ sym l.invariant.1

pub returns-else-at-line : goal.returns-else-at-line
returns-else-at-line g c =
    let l = c.loop-i in
    let e = fields_end c.args.decimals g.row.N l.i l.at l.numbers c.args.line.now (omega arith) in
    rw (lt-leb (length c.args.line.now) l.at c.if-at-line.false) at e ∙ sym l.invariant.1
