use mathlib.Core.Path.{◌≡◌, ap, ◌∙◌}
use Prim.Native.Nat.{ℕ}
use Rattle.std.proofs.lemmas.Result.{err_from_is_err_and}
use Rattle.words.specs.Words.{words_of}
use Rattle.bandwidth_setup.specs.View.{setup_of}
use Rattle.bandwidth_model.specs.Model.{State}
use Rattle.bandwidth.specs.declared.Record.{Record}
use Rattle.bandwidth_lent.specs.Bytes.{Lent, state_of, byte_refusal}
use Rattle.bandwidth_lent.specs.View.{words_in}
use Rattle.bandwidth_lent.proofs.Lengths.{wrong_record}
use Rattle.bandwidth_lent.proofs.Steps.{state_held}
use Rattle.bandwidth_lent.proofs.lent.load_lent.Goals as goal

-- by the set-up of a record that the bytes hold
by_held : (l : Lent) {r : Record} {n : ℕ} → words_in r ≡ words_of 8 12 l.«record» → n ≡ byte_refusal (setup_of r.setup) l → n ≡ byte_refusal (state_of l).setup l
by_held l {r} w e = e ∙ ap (λ (s : State). byte_refusal s.setup l) (state_held l r w)

pub returns-else-record-eq96-clause-refusal : goal.returns-else-record-eq96-clause-refusal
returns-else-record-eq96-clause-refusal c = wrong_record _ _ c.if-record-eq96.false

pub returns-in_err-check_lengths-clause-refusal : goal.returns-in_err-check_lengths-clause-refusal
returns-in_err-check_lengths-clause-refusal c =
    let p = err_from_is_err_and c.from_residual.result c.from_residual.ensures.1 in
    rw (p.1, p.2) (by_held _ c.load_record-given.ensures c.in_err-check_lengths.ensures)

pub returns-in_ok-check_lengths-clause-refusal : goal.returns-in_ok-check_lengths-clause-refusal
returns-in_ok-check_lengths-clause-refusal c = by_held _ c.load_record-given.ensures c.in_ok-check_lengths.ensures
