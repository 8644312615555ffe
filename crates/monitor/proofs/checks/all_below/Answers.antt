use mathlib.Core.Path.{◌≡◌, ap, ◌∙◌}
use Prim.Native.Nat.{ℕ, ◌/◌, ◌%◌, ◌^◌}
use lib.Bits.{bit_and, and_mask}
use lib.Dec.{eqb}
use Rattle.tables.specs.View.{union_below}
use Rattle.monitor.proofs.Forms.{below_test}
use Rattle.monitor.proofs.checks.all_below.Goals as goal

pub returns : goal.returns
returns c =
    λ n f e.
    let a = c.args in
    let low : bit_and a.bits c.ones.result ≡ union_below n f % 2 ^ a.width = rw (e, c.ones.ensures) (and_mask (union_below n f) a.width) in
    ap (λ (x : ℕ). eqb (x / 2 ^ a.w) 0) low ∙ below_test a.width a.w n f
