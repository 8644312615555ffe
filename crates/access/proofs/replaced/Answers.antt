use native.Mathlib.Omega.{arith}
use borrow.Author.Tests.{eq-eqb, ne_eqb}
use Rattle.access.specs.Access.{replaced}
use Rattle.access.proofs.Access.{half_small}
use Rattle.access.proofs.replaced.Goals as goal

pub overflow_add-result : goal.overflow_add-result
overflow_add-result c =
    let s = c in
    record { fits = omega (arith, half_small s.args.size s.args.offset s.args.v s.requires c.if-size-eq8.false) }

pub overflow_mul-result-else-offset-eq0 : goal.overflow_mul-result-else-offset-eq0
overflow_mul-result-else-offset-eq0 c =
    let s = c in
    record { fits = omega (arith, half_small s.args.size s.args.offset s.args.v s.requires c.if-size-eq8.false) }

pub overflow_add-result-else-offset-eq0 : goal.overflow_add-result-else-offset-eq0
overflow_add-result-else-offset-eq0 c =
    let s = c in
    record { fits = omega (arith, half_small s.args.size s.args.offset s.args.v s.requires c.if-size-eq8.false) }

pub returns-then-size-eq8 : goal.returns-then-size-eq8
unfolding replaced
returns-then-size-eq8 c = rw (eq-eqb _ _ c.if-size-eq8.true)

pub returns-then-offset-eq0 : goal.returns-then-offset-eq0
unfolding replaced
returns-then-offset-eq0 c = rw (ne_eqb _ _ c.if-size-eq8.false, eq-eqb _ _ c.if-offset-eq0.true)

pub returns-else-offset-eq0 : goal.returns-else-offset-eq0
unfolding replaced
returns-else-offset-eq0 c = rw (ne_eqb _ _ c.if-size-eq8.false, ne_eqb _ _ c.if-offset-eq0.false)
