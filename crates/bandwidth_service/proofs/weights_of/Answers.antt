use mathlib.Core.Path.{◌≡◌, refl, sym, ap, ◌∙◌}
use native.Mathlib.Omega.{arith}
use Rattle.words.specs.Words.{table_of}
use Rattle.bandwidth_setup.specs.View.{setup_of}
use Rattle.bandwidth_model.specs.Waiters.{weights_below}
use Rattle.bandwidth_waiters.proofs.Weights.{weights_start, weights_next}
use Rattle.bandwidth_service.proofs.weights_of.Goals as goal

pub loop-rcid-init : goal.loop-rcid-init
loop-rcid-init c = (refl, (weights_start c.requires.opens, omega arith))

pub weight_at-sum-requires : goal.weight_at-sum-requires
weight_at-sum-requires c = (c.requires, omega (arith, c.requires.waiters_long))

pub loop-rcid-preserved : goal.loop-rcid-preserved
loop-rcid-preserved c =
    let l = c.loop-rcid in
    let w = c.weight_at-sum.ensures in
    (l.invariant.0, (rw (l.invariant.1.0, w.is) (sym (weights_next c.requires.opens l.rcid)), omega (arith, l.invariant.1.1, w.small)))

pub returns : goal.returns
returns c =
    let l = c.loop-rcid in
    let e : l.rcid ≡ c.args.setup.nr = omega (arith, c.requires.waiters_long) in
    l.invariant.1.0 ∙ ap (weights_below (setup_of c.args.setup) (table_of 4 c.args.active.now) (table_of 8 c.args.waiters.now)) e
