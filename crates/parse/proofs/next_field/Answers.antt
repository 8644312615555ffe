use mathlib.Core.Path.{◌∙◌, sym}
use Rattle.parse.proofs.Laws.{field_past, field_not, field_at}
use Rattle.parse.proofs.next_field.Goals as goal

pub returns-in_err-get : goal.returns-in_err-get
returns-in_err-get c = rw c.from_residual.ensures (field_past _ c.args.line.now c.args.at c.in_err-get.ensures.lookup.3)

pub returns-then-branch-ne32 : goal.returns-then-branch-ne32
returns-then-branch-ne32 c =
    let a = c.args in
    let b = c.in_ok-get.ensures.lookup.3 in
    field_not _ a.line.now a.at b.0 (rw (b.1 0) at c.if-branch-ne32.true)

pub returns-then-hex : goal.returns-then-hex
returns-then-hex c =
    let a = c.args in
    let b = c.in_ok-get.ensures.lookup.3 in
    rw c.if-hex.true (c.hex_number.ensures ∙ field_at 16 a.line.now a.at b.0 (sym (b.1 0) ∙ c.if-branch-ne32.false))

pub returns-else-hex : goal.returns-else-hex
returns-else-hex c =
    let a = c.args in
    let b = c.in_ok-get.ensures.lookup.3 in
    rw c.if-hex.false (c.number.ensures ∙ field_at 10 a.line.now a.at b.0 (sym (b.1 0) ∙ c.if-branch-ne32.false))
