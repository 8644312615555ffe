use mathlib.Core.Path.{ap, ◌∙◌}
use Prim.Native.Nat.{ℕ}
use native.Mathlib.Omega.{arith}
use Rattle.access.specs.Pairs.{pair}
use Rattle.access.proofs.Pairs.{known_lt}
use Rattle.capacity_masks.proofs.setup.Setup.pair_at.Goals as goal

pub place-requires : goal.place-requires
place-requires c =
    let s = c.before in
    let r = s.requires in
    (r.na_high, (omega (arith, c.if-rcid-self.true, r.nr_high), omega (arith, c.known_at.ensures, known_lt s.args.self.na s.args.at r.na_low, r.na_high)))

pub returns-then-rcid-self : goal.returns-then-rcid-self
returns-then-rcid-self c =
    λ h.
    let a = c.args in
    c.place.ensures ∙ ap (λ (x : ℕ). pair a.self.na a.rcid x) c.known_at.ensures

pub returns-else-rcid-self : goal.returns-else-rcid-self
returns-else-rcid-self c = λ h. absurd (omega (arith, c.if-rcid-self.false))
