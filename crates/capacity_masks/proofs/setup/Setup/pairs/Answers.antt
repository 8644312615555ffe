use mathlib.Core.Path.{refl}
use native.Mathlib.Nat.{mul-le-mul}
use native.Mathlib.Omega.{arith}
use Rattle.capacity_model.specs.Rules.{pairs}
use Rattle.capacity_masks.proofs.setup.Setup.pairs.Goals as goal

pub overflow_mul-result : goal.overflow_mul-result
overflow_mul-result c = record { fits = omega (arith, mul-le-mul c.requires.nr_high c.requires.na_high) }

pub returns : goal.returns
unfolding pairs
returns c = record { is = refl; small = mul-le-mul c.requires.nr_high c.requires.na_high }
