use mathlib.Core.Path.{refl, sym, ◌∙◌}
use lib.Dec.{eqb→eq}
use Rattle.tables.proofs.Tests.{of_true}
use Rattle.bandwidth_wellformed.proofs.Passes.{used_none, rough_none}
use Rattle.bandwidth_wellformed.proofs.usage.over_bits.Goals as goal
use Rattle.bandwidth_wellformed.proofs.usage.over_bits.Goals.{then-all_zero, else-all_zero}

pub returns-then-over_roughly-eq0 : goal.returns-then-over_roughly-eq0
returns-then-over_roughly-eq0 c = elim c.if-all_zero.branch [
  | then-all_zero w ↦ sym (used_none _ _ _ _ refl (c.all_zero.ensures (of_true w.if-all_zero.true)))
  | else-all_zero w ↦ sym (rough_none _ _ _ _ (eqb→eq _ 0 (of_true (sym w.value-is ∙ c.if-over_roughly-eq0.true))) _ w.ilog2.ensures.power_le w.over_roughly.ensures)
]
