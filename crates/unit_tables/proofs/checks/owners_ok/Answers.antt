use mathlib.Core.Path.{◌≡◌, refl, ap, ◌∙◌}
use Prim.Native.Nat.{ℕ}
use native.Mathlib.Omega.{arith}
use lib.ListN.{length, get_or}
use Rattle.tables.specs.Below.{all_below}
use Rattle.units.specs.Owners.{owner_ok}
use Rattle.unit_tables.proofs.checks.owners_ok.Goals as goal

pub loop-owner-init : goal.loop-owner-init
loop-owner-init c = c.none_seen-seen.ensures _ _ _ _

pub loop-owner-preserved : goal.loop-owner-preserved
loop-owner-preserved c = let l = c.loop-owner in c.with_owner-seen.ensures l.owner-index _ l.invariant refl

pub returns : goal.returns
returns c =
    let a = c.args in
    let l = c.loop-owner in
    let e : l.owner-index ≡ length a.owners.now = omega arith in
    c.seen_ok.ensures l.owner-index _ l.invariant ∙ ap (λ (n : ℕ). all_below n (λ i. owner_ok a.nr a.nm a.na (get_or a.owners.now i 0))) e
