use Rattle.std.proofs.Common.{true, false}
use Rattle.std.proofs.lemmas.Result.{err_from_is_err_and}
use Rattle.access.proofs.Access.{write_failed, write_passed}
use Rattle.access.proofs.Refusals.{number_pos}
use Rattle.access.proofs.check_write.Goals as goal

pub returns-in_err-check_read : goal.returns-in_err-check_read
returns-in_err-check_read c =
    let a = c.args in
    let p = err_from_is_err_and c.from_residual.result c.from_residual.ensures.1 in
    let why = c.in_err-check_read.field-0.0 in
    rw (p.1, p.2) (write_failed a.size a.offset a.value _ (number_pos why) c.in_err-check_read.ensures)

pub returns-then-size-value : goal.returns-then-size-value
returns-then-size-value c =
    let a = c.args in
    write_passed a.size a.offset a.value true c.if-size-value.true c.in_ok-check_read.ensures

pub returns-else-size-value : goal.returns-else-size-value
returns-else-size-value c =
    let a = c.args in
    write_passed a.size a.offset a.value false c.if-size-value.false c.in_ok-check_read.ensures
