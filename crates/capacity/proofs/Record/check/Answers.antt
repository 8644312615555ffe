use mathlib.Core.Path.{sym, ◌∙◌}
use Rattle.std.proofs.lemmas.Result.{err_from_is_err_and}
use Rattle.access.proofs.Refusals.{number_pos}
use Rattle.capacity_model.proofs.Setup.{ranges}
use Rattle.capacity.proofs.Checks.{setup_passed, lengths_passed, state_failed, state_tested}
use Rattle.capacity.proofs.Record.check.Goals as goal

pub returns-in_err-check_setup : goal.returns-in_err-check_setup
returns-in_err-check_setup c =
    let p = err_from_is_err_and c.from_residual.result c.from_residual.ensures.1 in
    rw (p.1, p.2) (state_failed _ _ (number_pos c.in_err-check_setup.field-0.0) c.in_err-check_setup.ensures)

pub well_formed-requires : goal.well_formed-requires
well_formed-requires c =
    let e = c.in_ok-check_setup.ensures in
    (ranges _ (setup_passed _ _ e), lengths_passed _ _ e)

pub returns-then-well_formed : goal.returns-then-well_formed
returns-then-well_formed c = state_tested _ c.in_ok-check_setup.ensures _ (sym c.if-well_formed.true ∙ c.well_formed-2.ensures)

pub returns-else-well_formed : goal.returns-else-well_formed
returns-else-well_formed c = state_tested _ c.in_ok-check_setup.ensures _ (sym c.if-well_formed.false ∙ c.well_formed-2.ensures)
