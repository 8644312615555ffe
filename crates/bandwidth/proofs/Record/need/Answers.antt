use mathlib.Core.Path.{ap, ◌∙◌}
use Rattle.bandwidth_model.specs.Calls.{need}
use Rattle.bandwidth_model.specs.Waiters.{need_of, need_at}
use Rattle.bandwidth.proofs.Calls.{call_failed, need_refused, need_done}
use Rattle.bandwidth.proofs.Record.need.Goals as goal

pub returns-in-Err : goal.returns-in-Err
returns-in-Err c = rw c.refused.ensures (call_failed _ (need _) tt _ c.in-Err.ensures)

pub returns-then-self-rcid : goal.returns-then-self-rcid
returns-then-self-rcid c = rw c.refused-then-self-rcid.ensures (need_refused c.in_default.ensures _ c.if-self-rcid.true)

pub returns : goal.returns
unfolding need_at
returns c =
    rw c.answered.ensures (need_done c.in_default.ensures _ c.if-self-rcid.false (c.need_of.ensures ∙ ap need_of c.word.ensures))
