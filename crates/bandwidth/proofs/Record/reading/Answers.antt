use mathlib.Core.Path.{refl, ◌∙◌}
use Rattle.std.proofs.lemmas.Result.{err_from_is_err_and}
use Rattle.bandwidth_model.specs.Model.{read_at}
use Rattle.bandwidth.proofs.Calls.{read_refused, read_done}
use Rattle.bandwidth.proofs.Record.reading.Goals as goal

pub returns-in_err-check_read : goal.returns-in_err-check_read
returns-in_err-check_read c _ _ _ _ _ _ _ q =
    let p = err_from_is_err_and c.from_residual.result c.from_residual.ensures.1 in
    rw (p.1, p.2) (read_refused q _ _ _ c.in_err-check_read.ensures)

pub returns : goal.returns
unfolding read_at
returns c active configured used counters events waiters _ q =
    read_done q _ _ _ c.in_ok-check_read.ensures (c.part.ensures ∙ rw (c.register.ensures active configured used counters events waiters) refl)
