use mathlib.Core.Path.{sym}
use Rattle.std.proofs.lemmas.Result.{err_from_is_err_and}
use Rattle.capacity_model.proofs.Steps.{fill_named}
use Rattle.capacity.specs.View.{state}
use Rattle.capacity.proofs.Calls.{fill_refused, fill_answered}
use Rattle.capacity.proofs.Record.filling.Goals as goal

pub returns-in_err-check_fill : goal.returns-in_err-check_fill
returns-in_err-check_fill c =
    let p = err_from_is_err_and c.from_residual.result c.from_residual.ensures.1 in
    λ ms ns es os at q m.
    rw (p.1, p.2) (fill_refused (state c.args.self.now ms ns es os) _ _ at _ q c.in_err-check_fill.field-0.0 c.in_err-check_fill.ensures)

pub block_of-requires : goal.block_of-requires
block_of-requires c = (c.requires, (fill_named _ _ _ _ (sym c.in_ok-check_fill.ensures)).unit_in)

pub returns : goal.returns
returns c =
    λ ms ns es os at q m.
    fill_answered (state c.args.self.now ms ns es os) _ _ at _ q c.in_ok-check_fill.ensures _ _ m c.block_of.ensures.0 _ c.has_block.ensures
