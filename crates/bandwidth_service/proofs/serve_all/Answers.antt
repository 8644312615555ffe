use mathlib.Core.Path.{refl, ◌∙◌}
use Prim.Native.Nat.{◌<◌}
use native.Mathlib.Omega.{arith}
use Rattle.bandwidth_setup.specs.View.{setup_of}
use Rattle.bandwidth_waiters.proofs.Windows.{turns_none}
use Rattle.bandwidth_service.proofs.Turns.{bytes_fit, words_in, turn_starts, turn_ends, all_turned}
use Rattle.bandwidth_service.proofs.serve_all.Goals as goal

pub loop-rcid-init : goal.loop-rcid-init
loop-rcid-init c = (refl, (turns_none _ _ _ _ _ _, c.requires.words))

pub serve_at-pool-requires : goal.serve_at-pool-requires
serve_at-pool-requires c =
    let b = c.requires in
    let a = c.args in
    let l = c.loop-rcid in
    let i = l.invariant in
    let f = bytes_fit a.used.now a.counters.now a.waiters.now 0 (λ k. (c.slice_known-1.given k).fits) (λ k. (c.slice_known-2-1.given k).fits) (λ k. (c.slice_known-3-1.given k).fits) in
    turn_starts b f l.used l.counters l.waiters l.pool l.rcid i.1.0 (omega arith) (l.auto.used ∙ b.used_long) i.1.1

pub loop-rcid-preserved : goal.loop-rcid-preserved
loop-rcid-preserved c =
    let b = c.requires in
    let a = c.args in
    let l = c.loop-rcid in
    let i = l.invariant in
    let f = bytes_fit a.used.now a.counters.now a.waiters.now 0 (λ k. (c.slice_known-1.given k).fits) (λ k. (c.slice_known-2-1.given k).fits) (λ k. (c.slice_known-3-1.given k).fits) in
    let low : l.rcid < a.setup.nr = omega arith in
    let k = c.serve_at-pool.auto in (
      i.0,
      (
        turn_ends b f l.used l.counters l.waiters l.pool l.rcid i.1.0 low c.serve_at-pool.ensures,
        words_in (setup_of c.args.setup) (k.used ∙ l.auto.used ∙ b.used_long) (k.counters ∙ l.auto.counters ∙ b.counters_long) (k.waiters ∙ l.auto.waiters ∙ b.weighs.waiters_long) b.words.events (λ j. (c.slice_known-in-loop-rcid-1.given j).fits) (λ j. (c.slice_known-in-loop-rcid-2-1.given j).fits) (λ j. (c.slice_known-in-loop-rcid-3-1.given j).fits),
      ),
    )

pub returns : goal.returns
returns c =
    let b = c.requires in
    let a = c.args in
    let l = c.loop-rcid in
    let i = l.invariant in
    let f = bytes_fit a.used.now a.counters.now a.waiters.now 0 (λ k. (c.slice_known-1.given k).fits) (λ k. (c.slice_known-2-1.given k).fits) (λ k. (c.slice_known-3-1.given k).fits) in
    all_turned b f l.used l.counters l.waiters l.pool l.rcid i.1.0 (omega arith) i.1.1
