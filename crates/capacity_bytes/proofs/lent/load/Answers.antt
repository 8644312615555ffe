use Rattle.std.proofs.lemmas.Result.{err_from_is_err_and}
use Rattle.capacity_bytes.specs.Bytes.{state_of}
use Rattle.capacity_bytes.proofs.Lengths.{wrong_record}
use Rattle.capacity_bytes.proofs.lent.load.Goals as goal

pub returns-then-record-ne-RECORD_BYTES-clause-refusal : goal.returns-then-record-ne-RECORD_BYTES-clause-refusal
returns-then-record-ne-RECORD_BYTES-clause-refusal c = wrong_record _ _ c.if-record-ne-RECORD_BYTES.true

pub returns-in_err-check_lengths-clause-refusal : goal.returns-in_err-check_lengths-clause-refusal
unfolding state_of
returns-in_err-check_lengths-clause-refusal c =
    let p = err_from_is_err_and c.from_residual.result c.from_residual.ensures.1 in
    rw (p.1, p.2, ← c.load_record-held.ensures) c.in_err-check_lengths.ensures

pub returns-clause-refusal : goal.returns-clause-refusal
unfolding state_of
returns-clause-refusal c = rw (← c.load_record-held.ensures) c.in_ok-check_lengths.ensures
