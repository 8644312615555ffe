use native.Mathlib.Omega.{arith}
use Rattle.bandwidth_wellformed.specs.Bits.{mark}
use Rattle.bandwidth_wellformed.proofs.Passes.{shift_some, shift_shared}
use Rattle.bandwidth_wellformed.proofs.rows.mark_of.Goals as goal

pub returns : goal.returns
unfolding mark
returns c = cc (shift_some c.args.a c.requires, shift_shared c.args.w (omega arith))
