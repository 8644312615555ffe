use Rattle.bandwidth_model.specs.Calls.{wait}
use Rattle.bandwidth.proofs.Calls.{call_failed, wait_refused, wait_done, wait_named}
use Rattle.bandwidth.proofs.Record.wait.Goals as goal

pub returns-in-Err : goal.returns-in-Err
returns-in-Err c = rw c.refused.ensures (call_failed _ (wait _ _ _ _ _) tt _ c.in-Err.ensures)

pub returns-in-Err-check_wait : goal.returns-in-Err-check_wait
returns-in-Err-check_wait c =
    rw c.refused-in-Err-check_wait.ensures (wait_refused c.in_default.ensures _ _ _ _ _ _ (c.in-Err-check_wait.ensures c.args.waiters.now c.word.ensures))

pub put_word-requires : goal.put_word-requires
put_word-requires c =
    let a = c.args in
    let p = c.in_default.ensures in
    (p.ranges, wait_named p a.rcid a.mcid 0 0 a.bytes (c.in_default-check_wait.ensures a.waiters.now c.word.ensures))

pub returns : goal.returns
returns c =
    rw c.answered.ensures
    (wait_done c.in_default.ensures _ _ _ _ _ (c.in_default-check_wait.ensures c.args.waiters.now c.word.ensures) c.put_word.ensures c.put.ensures)
