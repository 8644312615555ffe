use mathlib.Core.Path.{ap, ◌∙◌}
use Rattle.std.proofs.lemmas.Result.{err_from_is_err_and}
use Rattle.bandwidth_model.specs.Calls.{need}
use Rattle.bandwidth_model.specs.Waiters.{need_of, need_at}
use Rattle.bandwidth_lent.specs.Bytes.{pointers}
use Rattle.bandwidth_bytes.proofs.Calls.{need_refused, need_done}
use Rattle.bandwidth_bytes.proofs.wait.need.Goals as goal

pub returns-in_err-held : goal.returns-in_err-held
unfolding pointers
returns-in_err-held c =
    let p = err_from_is_err_and c.from_residual.result c.from_residual.ensures.1 in
    rw (p.1, p.2) (c.in_err-held.ensures (need _) tt)

pub returns-then-setup-rcid : goal.returns-then-setup-rcid
returns-then-setup-rcid c = need_refused c.in_ok-held.ensures _ c.if-setup-rcid.true

pub returns : goal.returns
unfolding need_at
returns c = need_done c.in_ok-held.ensures _ c.if-setup-rcid.false (c.need_of.ensures ∙ ap need_of c.word.ensures)
