use mathlib.Core.Path.{◌≡◌, sym, ap, ◌∙◌}
use Prim.Native.Nat.{ℕ}
use native.Mathlib.Omega.{arith}
use lib.Dec.{eqb}
use lib.ListN.{length}
use Rattle.tables.specs.View.{union_below}
use Rattle.tables.proofs.Union.{union_none, union_next}
use Rattle.monitor.proofs.Forms.{bad_at, events_test}
use Rattle.monitor.proofs.checks.events_ok.Goals as goal

pub loop-s-init : goal.loop-s-init
loop-s-init c = sym (union_none _)

pub loop-s-preserved : goal.loop-s-preserved
unfolding bad_at
loop-s-preserved c = rw union_next (cc)

pub returns : goal.returns
returns c =
    let a = c.args in
    let e : c.loop-s.s-index ≡ length a.t.now = omega arith in
    ap (λ (x : ℕ). eqb x 0) (c.loop-s.invariant ∙ ap (λ (n : ℕ). union_below n (bad_at a.na a.resource a.t.now)) e)
    ∙ events_test a.na a.resource a.t.now (length a.t.now)
