use mathlib.Core.Path.{◌≡◌, refl, sym, ap, ◌∙◌}
use Prim.Native.Nat.{ℕ}
use native.Mathlib.Omega.{arith}
use lib.ListN.{length, get_or}
use Rattle.tables.specs.Below.{all_below}
use Rattle.tables.proofs.Laws.{all_none, all_next}
use Rattle.words.specs.Words.{table_of}
use Rattle.words.proofs.Parts.{entries}
use Rattle.bandwidth_model.specs.Waiters.{waiter_ok}
use Rattle.bandwidth_setup.specs.View.{setup_of}
use Rattle.bandwidth_waiters.proofs.Forms.{none_waits}
use Rattle.bandwidth_lent.proofs.waiters.waiters_ok.Goals as goal

pub returns-then-union64-eq0 : goal.returns-then-union64-eq0
returns-then-union64-eq0 c = none_waits (setup_of c.args.setup) (table_of 8 c.args.t.now) (sym c.union64.ensures ∙ c.if-union64-eq0.true)

pub loop-i-init : goal.loop-i-init
loop-i-init c = (refl, sym (all_none _))

pub loop-i-preserved : goal.loop-i-preserved
loop-i-preserved c = (c.loop-i.invariant.0, rw all_next (cc))

pub returns : goal.returns
returns c =
    let a = c.args in
    let t = table_of 8 a.t.now in
    let e : c.loop-i.i ≡ length t = omega (arith, entries 8 a.t.now) in
    c.loop-i.invariant.1 ∙ ap (λ (n : ℕ). all_below n (λ k. waiter_ok (setup_of a.setup) (get_or t k 0))) e
