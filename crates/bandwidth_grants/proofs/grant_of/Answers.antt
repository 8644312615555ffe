use mathlib.Core.Path.{refl, ◌∙◌}
use native.Mathlib.Omega.{arith}
use Rattle.bandwidth_grants.specs.Grants.{grant_in}
use Rattle.bandwidth_grants.proofs.Steps.{held_steps}
use Rattle.bandwidth_grants.proofs.grant_of.Goals as goal

pub returns-in-None : goal.returns-in-None
unfolding grant_in
returns-in-None c = rw c.in-None.is (record { is = refl; sum = omega arith })

pub returns-in-Some : goal.returns-in-Some
returns-in-Some c =
    let w = c.before in
    rw w.in-Some.is
    (held_steps _ _ _ _ _ (w.from-word.ensures ∙ w.word.ensures) (w.from-before.ensures ∙ w.word-in-Some.ensures) c.from_reservation-own.ensures c.from_pool.ensures)
