use Rattle.std.proofs.lemmas.Result.{err_from_is_err_and}
use Rattle.words.specs.Words.{table_of}
use Rattle.bandwidth_model.specs.Calls.{wait}
use Rattle.bandwidth.proofs.Calls.{wait_named}
use Rattle.bandwidth_lent.specs.Bytes.{pointers}
use Rattle.bandwidth_bytes.proofs.Calls.{wait_refused, wait_done}
use Rattle.bandwidth_bytes.proofs.wait.wait.Goals as goal

pub returns-in_err-held : goal.returns-in_err-held
unfolding pointers
returns-in_err-held c =
    let p = err_from_is_err_and c.from_residual.result c.from_residual.ensures.1 in
    rw (p.1, p.2) (c.in_err-held.ensures (wait _ _ _ _ _) tt)

pub returns-in_err-check_wait : goal.returns-in_err-check_wait
returns-in_err-check_wait c =
    let p = err_from_is_err_and c.from_residual-in_err-check_wait.result c.from_residual-in_err-check_wait.ensures.1 in
    rw (p.1, p.2) (wait_refused c.in_ok-held.ensures _ _ _ _ _ c.in_err-check_wait.field-0.0 (c.in_err-check_wait.ensures (table_of 8 c.args.waiters.now) c.word.ensures))

pub put_word-requires : goal.put_word-requires
put_word-requires c =
    let p = c.in_ok-held.ensures.passes in
    (p.ranges, wait_named p c.args.rcid c.args.mcid 0 0 c.args.bytes (c.in_ok-check_wait.ensures (table_of 8 c.args.waiters.now) c.word.ensures))

pub returns : goal.returns
returns c =
    wait_done c.in_ok-held.ensures _ _ _ _ _ _ (c.in_ok-check_wait.ensures (table_of 8 c.args.waiters.now) c.word.ensures) c.put_word.ensures c.put.ensures
