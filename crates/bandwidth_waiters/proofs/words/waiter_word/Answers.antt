use mathlib.Core.Path.{refl, sym, ◌∙◌}
use lib.Dec.{eqb}
use Rattle.tables.proofs.Tests.{cond_no, neqb_in}
use Rattle.bandwidth_model.specs.Waiters.{waiter_word}
use Rattle.bandwidth_waiters.proofs.words.waiter_word.Goals as goal

pub returns-then-waiter-eq0 : goal.returns-then-waiter-eq0
unfolding waiter_word
returns-then-waiter-eq0 c = rw c.if-waiter-eq0.true refl

pub returns-else-waiter-eq0 : goal.returns-else-waiter-eq0
unfolding waiter_word
returns-else-waiter-eq0 c =
    let n = c.args.waiter.need in
    c.pack.ensures ∙ sym (cond_no (eqb n 0) 0 _ (neqb_in n 0 c.if-waiter-eq0.false))
