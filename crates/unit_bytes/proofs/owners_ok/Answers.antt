use mathlib.Core.Path.{◌≡◌, refl, ap, ◌∙◌}
use Prim.Native.Nat.{ℕ}
use native.Mathlib.Omega.{arith}
use lib.ListN.{length, get_or}
use Rattle.tables.specs.Below.{all_below}
use Rattle.words.specs.Words.{table_of}
use Rattle.words.proofs.Parts.{entries, entry_in}
use Rattle.units.specs.Owners.{owner_ok}
use Rattle.unit_bytes.proofs.owners_ok.Goals as goal

pub loop-i-init : goal.loop-i-init
loop-i-init c = ((refl, omega arith), c.none_seen-seen.ensures _ _ _ _)

pub loop-i-preserved : goal.loop-i-preserved
loop-i-preserved c =
    let a = c.args in
    let l = c.loop-i in
    ((l.invariant.0.0, omega arith), c.with_owner-seen.ensures l.i _ l.invariant.1 (entry_in 4 a.owners.now l.i _ (omega arith) c.load-owner.ensures))

pub returns : goal.returns
returns c =
    let a = c.args in
    let l = c.loop-i in
    let t = table_of 4 a.owners.now in
    let e : l.i ≡ length t = omega (arith, entries 4 a.owners.now) in
    c.seen_ok.ensures l.i _ l.invariant.1 ∙ ap (λ (n : ℕ). all_below n (λ i. owner_ok a.nr a.nm a.na (get_or t i 0))) e
