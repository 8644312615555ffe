use mathlib.Core.Path.{refl}
use native.Mathlib.Nat.{mul-le-mul}
use native.Mathlib.Omega.{arith}
use Rattle.capacity_model.specs.Rules.{unit_count}
use Rattle.capacity_masks.proofs.setup.Setup.unit_count.Goals as goal

pub overflow_mul-result : goal.overflow_mul-result
overflow_mul-result c = record { fits = omega (arith, mul-le-mul c.requires.ncblks_high c.requires.units_high) }

pub returns : goal.returns
unfolding unit_count
returns c = record { is = refl; small = mul-le-mul c.requires.ncblks_high c.requires.units_high }
