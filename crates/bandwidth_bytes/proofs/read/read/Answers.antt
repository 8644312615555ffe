use Rattle.std.proofs.lemmas.Result.{err_from_is_err_and}
use Rattle.bandwidth_model.specs.Calls.{read}
use Rattle.bandwidth_lent.specs.Bytes.{pointers}
use Rattle.bandwidth_bytes.proofs.Calls.{read_answered}
use Rattle.bandwidth_bytes.proofs.read.read.Goals as goal

pub reading-requires : goal.reading-requires
reading-requires c = c.in_ok-held.ensures.passes.ranges

pub returns-in_err-held : goal.returns-in_err-held
unfolding pointers
returns-in_err-held c =
    let p = err_from_is_err_and c.from_residual.result c.from_residual.ensures.1 in
    rw (p.1, p.2) (c.in_err-held.ensures (read _ _) tt)

pub returns : goal.returns
returns c =
    let p = c.in_ok-held.ensures in
    read_answered p _ _ _ (c.reading.ensures _ _ _ _ _ _ _ p.passes)
