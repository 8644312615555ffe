use native.Mathlib.Omega.{arith}
use Rattle.bandwidth_setup.specs.View.{setup_of}
use Rattle.bandwidth_waiters.specs.Turns.{tables}
use Rattle.bandwidth_waiters.proofs.Windows.{turns_ready, turns_none, turns_next}
use Rattle.bandwidth_waiters.proofs.service.serve_all.Goals as goal

pub loop-rcid-init : goal.loop-rcid-init
loop-rcid-init c = turns_none _ _ _ _ _ _

pub serve_at-pool-requires : goal.serve_at-pool-requires
serve_at-pool-requires c =
    let l = c.loop-rcid in
    let a = c.before in
    let p = a.requires in
    rw l.invariant (turns_ready p.0 _ _ a.args.events.now p.1.0 p.1.1.0 p.1.1.1 l.rcid (omega (arith, p.0.waiters_long)))

pub loop-rcid-preserved : goal.loop-rcid-preserved
loop-rcid-preserved c =
    let s = c.before in
    let l = s.loop-rcid in
    let a = s.args in
    let first = tables a.used.now 0 a.counters.now a.waiters.now in
    turns_next (setup_of a.setup) a.active.now a.events.now a.size a.weights first l.rcid l.invariant s.serve_at-pool.ensures
