use Rattle.std.proofs.lemmas.Result.{err_from_is_err_and}
use Rattle.bandwidth_model.specs.Calls.{end_window}
use Rattle.bandwidth_lent.specs.Bytes.{pointers}
use Rattle.bandwidth_bytes.proofs.window.end_window.Goals as goal

pub open_window-requires : goal.open_window-requires
open_window-requires c = c.in_ok-held.ensures

pub returns-in_err-held : goal.returns-in_err-held
unfolding pointers
returns-in_err-held c =
    let p = err_from_is_err_and c.from_residual.result c.from_residual.ensures.1 in
    rw (p.1, p.2) (c.in_err-held.ensures end_window tt)

pub returns : goal.returns
returns c = c.open_window.ensures
