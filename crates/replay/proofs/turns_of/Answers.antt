use native.Mathlib.Omega.{arith}
use Rattle.replay.specs.Replay.{turns}
use Rattle.replay.proofs.turns_of.Goals as goal

pub returns : goal.returns
unfolding turns
returns c = record { is = omega arith; small = omega arith }
