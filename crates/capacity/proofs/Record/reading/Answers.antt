use mathlib.Core.Path.{refl}
use Rattle.std.proofs.lemmas.Result.{err_from_is_err_and}
use Rattle.capacity.specs.View.{state}
use Rattle.capacity_model.specs.Calls.{read}
use Rattle.capacity_model.specs.Model.{argument_checks, read_at, perform}
use Rattle.capacity.proofs.Calls.{call_refused, call_done}
use Rattle.capacity.proofs.Record.reading.Goals as goal

pub returns-in_err-check_read : goal.returns-in_err-check_read
unfolding argument_checks
returns-in_err-check_read c =
    let p = err_from_is_err_and c.from_residual.result c.from_residual.ensures.1 in
    λ ms ns es os q.
    rw (p.1, p.2) (call_refused (state c.args.self.now ms ns es os) (read _ _) tt q c.in_err-check_read.field-0.0 c.in_err-check_read.ensures)

pub returns : goal.returns
unfolding argument_checks read_at perform
returns c =
    λ ms ns es os q.
    call_done (state c.args.self.now ms ns es os) (read _ _) tt q c.in_ok-check_read.ensures _ (rw (c.part.ensures, c.register.ensures ms ns es os) refl)
