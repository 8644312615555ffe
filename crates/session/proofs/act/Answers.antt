use mathlib.Core.Path.{sym, ap, ◌∙◌}
use Rattle.std.specs.Prelude.{Some}
use Rattle.tables.proofs.Tests.{of_true}
use Rattle.bandwidth_model.proofs.Setup.{ranges}
use Rattle.session.proofs.Laws.{act_set_up, act_refused, act_call, act_none, act_bad}
use Rattle.std.proofs.Common.{rules}
use Rattle.session.proofs.act.Goals as goal

pub set_up-requires : goal.set_up-requires
set_up-requires c = (ranges _ (of_true (sym c.in_range.ensures ∙ c.if-in_range.true)), search rules)

pub perform_in_front-requires : goal.perform_in_front-requires
perform_in_front-requires c = (ranges _ (of_true (sym c.in_range-in-Call.ensures ∙ c.if-in_range-2.true)), search rules)

pub returns-then-in_range-clause-answer : goal.returns-then-in_range-clause-answer
returns-then-in_range-clause-answer c = act_set_up _ _ _ (c.in-Some.is ∙ ap Some c.in-Reset.is) _ (c.set_up.ensures.answer _)

pub returns-else-in_range-clause-answer : goal.returns-else-in_range-clause-answer
returns-else-in_range-clause-answer c = rw c.from.ensures (act_refused _ _ _ (c.in-Some.is ∙ ap Some c.in-Reset.is) (sym c.in_range.ensures ∙ c.if-in_range.false))

pub returns-then-in_range-2-clause-answer : goal.returns-then-in_range-2-clause-answer
returns-then-in_range-2-clause-answer c =
    act_call _ _ _ _ _ _ _ _ _ (c.in-Some.is ∙ ap Some c.in-Call.is) _ (of_true (sym c.in_range-in-Call.ensures ∙ c.if-in_range-2.true)) c.perform_in_front.ensures.answer

pub returns-else-in_range-2-clause-answer : goal.returns-else-in_range-2-clause-answer
returns-else-in_range-2-clause-answer c =
    act_none _ _ _ _ _ _ _ _ _ (c.in-Some.is ∙ ap Some c.in-Call.is) _ _ _ _ _ _ (sym c.in_range-in-Call.ensures ∙ c.if-in_range-2.false)

pub returns-in_default-clause-answer : goal.returns-in_default-clause-answer
returns-in_default-clause-answer c = act_bad _ _ c.in_default.is
