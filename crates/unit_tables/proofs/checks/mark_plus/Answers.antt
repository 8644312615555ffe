use mathlib.Core.Path.{refl}
use native.Mathlib.Omega.{arith}
use lib.Bits.{bit_and, and_le_r}
use Prim.Native.Nat.{◌+◌}
use Rattle.unit_tables.specs.View.{mark_plus}
use Rattle.unit_tables.proofs.checks.mark_plus.Goals as goal

pub overflow_add-result : goal.overflow_add-result
unfolding mark_plus
overflow_add-result c = record { fits = omega (arith, and_le_r c.args.owner 0xfffff) }

pub overflow_add-result-2 : goal.overflow_add-result-2
unfolding mark_plus
overflow_add-result-2 c = record { fits = omega (arith, and_le_r (bit_and c.args.owner 0xfffff + 0x80000) 0xfffff) }

pub returns : goal.returns
unfolding mark_plus
returns c = refl
