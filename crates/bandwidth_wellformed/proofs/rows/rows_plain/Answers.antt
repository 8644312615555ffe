use mathlib.Core.Path.{sym}
use Rattle.tables.proofs.Laws.{all_none, all_next}
use Rattle.bandwidth_wellformed.proofs.rows.rows_plain.Goals as goal

pub loop-r-init : goal.loop-r-init
loop-r-init g c = sym (all_none _)

pub loop-r-preserved : goal.loop-r-preserved
loop-r-preserved g c = rw all_next (cc)
