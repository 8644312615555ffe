use borrow.Author.Tests.{eq-eqb, ne_eqb}
use Rattle.fields.specs.Registers.{held_at}
use Rattle.fields.proofs.held_at.Goals as goal

pub returns-then-na-eq1 : goal.returns-then-na-eq1
unfolding held_at
returns-then-na-eq1 c = simp (eq-eqb c.args.na 1 c.if-na-eq1.true)

pub returns-else-na-eq1 : goal.returns-else-na-eq1
unfolding held_at
returns-else-na-eq1 c = simp (ne_eqb c.args.na 1 c.if-na-eq1.false)
