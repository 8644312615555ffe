use mathlib.Core.Path.{sym}
use Rattle.tables.proofs.Laws.{all_none, all_next}
use Rattle.bandwidth_waiters.proofs.words.waiters_ok.Goals as goal

pub loop-w-init : goal.loop-w-init
loop-w-init c = sym (all_none _)

pub loop-w-preserved : goal.loop-w-preserved
loop-w-preserved c = rw all_next (cc)
