use mathlib.Core.Path.{refl}
use borrow.Author.Tests.{ne_eqb}
use Rattle.bandwidth_model.specs.Model.{register}
use Rattle.bandwidth.proofs.Record.register.Goals as goal

pub returns-in-0 : goal.returns-in-0
unfolding register
returns-in-0 c _ _ _ _ _ _ = rw c.in-0.is c.capabilities.ensures

pub returns-in-1 : goal.returns-in-1
unfolding register
returns-in-1 c _ _ _ _ _ _ = rw c.in-1.is refl

pub returns-in-2 : goal.returns-in-2
unfolding register
returns-in-2 c _ _ _ _ _ _ = rw c.in-2.is refl

pub returns-in-3 : goal.returns-in-3
unfolding register
returns-in-3 c _ _ _ _ _ _ = rw c.in-3.is refl

pub returns-in_default : goal.returns-in_default
unfolding register
returns-in_default c _ _ _ _ _ _ =
    let n = c.args.n in
    let r = c.in_default.in_default-own.rest in
    rw (ne_eqb n 0 r.0.0.0.1, ne_eqb n 1 r.0.0.1, ne_eqb n 2 r.0.1, ne_eqb n 3 r.1) refl
