use mathlib.Core.Path.{sym}
use Rattle.tables.proofs.Tests.{is_false}
use Rattle.tables.proofs.Laws.{any_none, any_next}
use Rattle.bandwidth_settings.proofs.operand.is_shared.Goals as goal

pub loop-b-init : goal.loop-b-init
loop-b-init c = sym (is_false _ (any_none _))

pub loop-b-preserved : goal.loop-b-preserved
loop-b-preserved c = rw any_next (cc)
