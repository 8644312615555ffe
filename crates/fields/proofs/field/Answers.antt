use mathlib.Core.Path.{ap, ◌∙◌}
use Prim.Native.Nat.{◌/◌, ◌^◌}
use lib.Bits.{bit_and, and_mask}
use Rattle.fields.proofs.field.Goals as goal

pub returns : goal.returns
returns c = let a = c.args in
    let x = a.word / 2 ^ a.place in
    ap (bit_and x) c.ones.ensures ∙ and_mask x a.width
