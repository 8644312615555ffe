use borrow.Author.Tests.{eq-eqb, ne_eqb}
use Rattle.bandwidth_model.specs.Rules.{use_shared_of}
use Rattle.bandwidth_settings.specs.Rows.{bad_operand_in}
use Rattle.bandwidth_settings.proofs.operand.bad_operand.Goals as goal

pub returns-then-f-eq0 : goal.returns-then-f-eq0
unfolding bad_operand_in use_shared_of
returns-then-f-eq0 c =
    rw (eq-eqb (use_shared_of c.args.word) 0 (cc)) c.bad_holder.ensures

pub returns-else-f-eq0 : goal.returns-else-f-eq0
unfolding bad_operand_in use_shared_of
returns-else-f-eq0 c =
    rw (ne_eqb (use_shared_of c.args.word) 0 (λ e. c.if-f-eq0.false (cc))) c.bad_sharer.ensures
