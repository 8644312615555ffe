use mathlib.Core.Path.{sym}
use native.Mathlib.Omega.{arith}
use Rattle.bandwidth_waiters.proofs.Weights.{weights_start, weights_next}
use Rattle.bandwidth_waiters.proofs.service.weights_of.Goals as goal

pub loop-rcid-init : goal.loop-rcid-init
loop-rcid-init c = (weights_start c.requires, omega arith)

pub loop-rcid-preserved : goal.loop-rcid-preserved
loop-rcid-preserved c =
    let a = c.before in
    let l = c.loop-rcid in
    let w = c.weight_at-sum.ensures in
    (rw (l.invariant.0, w.is) (sym (weights_next a.requires l.rcid)), omega (arith, l.invariant.1, w.small))
