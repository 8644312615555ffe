use mathlib.Core.Path.{◌∙◌}
use native.Mathlib.Omega.{arith}
use Rattle.print.proofs.Laws.{wrote_as, decimal_most, decimal_text}
use Rattle.print.proofs.put_decimal.Goals as goal

pub put-requires : goal.put-requires
put-requires c =
    let d = c.decimal-k.ensures in
    omega (arith, decimal_most _ _ c.ranges.n.fits d.len, c.requires)

pub returns : goal.returns
returns c =
    let d = c.decimal-k.ensures in
    wrote_as c.put.ensures (d.digits ∙ decimal_text _ _ c.ranges.n.fits d.len) (omega (arith, decimal_most _ _ c.ranges.n.fits d.len, c.requires))
