use mathlib.Core.Path.{sym, subst, ◌∙◌}
use lib.Dec.{T}
use Rattle.tables.proofs.Tests.{of_true}
use Rattle.bandwidth_wellformed.proofs.Passes.{plain_right}
use Rattle.bandwidth_wellformed.proofs.rows.rows_by.Goals as goal
use Rattle.bandwidth_wellformed.proofs.rows.rows_by.Goals.{then-plain, else-plain}

pub returns-then-rows_plain : goal.returns-then-rows_plain
returns-then-rows_plain g c = elim c.if-plain.branch [
  | then-plain w ↦
      c.if-rows_plain.true
      ∙ sym (plain_right g.row.NA c.args.rows c.args.t.now c.args.any (rw c.requires.0.long c.requires.1) (of_true w.if-plain.true) (subst T w.rows_plain.ensures (of_true (sym w.value-is ∙ c.if-rows_plain.true))))
  | else-plain w ↦ cc
]
