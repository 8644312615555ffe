use mathlib.Core.Path.{refl}
use native.Mathlib.Omega.{arith}
use Rattle.numbers.specs.Numbers.{words_for}
use Rattle.mask_tables.proofs.words_for.Goals as goal

pub returns : goal.returns
unfolding words_for
returns c = (refl, (omega arith, omega arith))
