use mathlib.Core.Path.{refl}
use native.Mathlib.Omega.{arith}
use Rattle.access.specs.Pairs.{pair}
use Rattle.access.proofs.Pairs.{row_le}
use Rattle.access.proofs.place.Goals as goal

pub overflow_mul-result : goal.overflow_mul-result
overflow_mul-result c = let p = c.requires in record { fits = omega (arith, row_le p.0 p.1.0) }

pub overflow_add-result : goal.overflow_add-result
overflow_add-result c = let p = c.requires in record { fits = omega (arith, row_le p.0 p.1.0) }

pub returns : goal.returns
unfolding pair
returns c = refl
