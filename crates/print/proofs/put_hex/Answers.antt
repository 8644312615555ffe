use mathlib.Core.Path.{◌∙◌}
use native.Mathlib.Omega.{arith}
use Rattle.print.proofs.Laws.{wrote_as, hex_most, hex_text}
use Rattle.print.proofs.put_hex.Goals as goal

pub put-requires : goal.put-requires
put-requires c =
    let d = c.hex-k.ensures in
    omega (arith, hex_most _ _ c.ranges.n.fits d.len, c.requires)

pub returns : goal.returns
returns c =
    let d = c.hex-k.ensures in
    wrote_as c.put.ensures (d.digits ∙ hex_text _ _ c.ranges.n.fits d.len) (omega (arith, hex_most _ _ c.ranges.n.fits d.len, c.requires))
