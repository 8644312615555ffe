use mathlib.Core.Path.{refl}
use Rattle.std.proofs.lemmas.Result.{err_from_is_err_and}
use Rattle.capacity.specs.View.{state}
use Rattle.capacity_model.specs.Calls.{write}
use Rattle.capacity_model.specs.Model.{argument_checks, perform}
use Rattle.capacity.proofs.Calls.{call_done, call_refused}
use Rattle.capacity.proofs.Record.write_words.Goals as goal

pub returns-in_err-check_write : goal.returns-in_err-check_write
unfolding argument_checks
returns-in_err-check_write c =
    let p = err_from_is_err_and c.from_residual.result c.from_residual.ensures.1 in
    λ ms ns es os q n.
    rw (p.1, p.2) (call_refused (state c.args.self.now ms ns es os) (write _ _ _) tt q c.in_err-check_write.field-0.0 c.in_err-check_write.ensures)

pub returns : goal.returns
unfolding argument_checks perform
returns c =
    λ ms ns es os q n.
    call_done (state c.args.self.now ms ns es os) (write _ _ _) tt q c.in_ok-check_write.ensures _ (rw (c.store.ensures ms ns es os n) refl)
