use mathlib.Core.Path.{sym, ap, ◌∙◌}
use Rattle.words.specs.Words.{bytes_of_all}
use Rattle.capacity.specs.declared.Record.{Record}
use Rattle.capacity_bytes.specs.View.{words_in}
use Rattle.std.proofs.lemmas.Result.{err_from_is_err_and}
use Rattle.capacity_model.proofs.Setup.{ranges}
use Rattle.capacity_bytes.proofs.Lengths.{in_range, long}
use Rattle.capacity_bytes.proofs.Resets.{reset_refused, reset_bytes}
use Rattle.capacity_bytes.proofs.reset.reset.Goals as goal

pub returns-in_err-check_lengths : goal.returns-in_err-check_lengths
returns-in_err-check_lengths c =
    let p = err_from_is_err_and c.from_residual.result c.from_residual.ensures.1 in
    rw (p.1, p.2) (reset_refused _ _ c.in_err-check_lengths.field-0.0 c.in_err-check_lengths.ensures)

pub store_record-requires : goal.store_record-requires
store_record-requires c = (long _ _ (sym c.in_ok-check_lengths.ensures)).record_long

pub reset_masks-requires : goal.reset_masks-requires
reset_masks-requires c =
    let z = sym c.in_ok-check_lengths.ensures in
    (ranges _ (in_range _ _ z), (long _ _ z).masks_long)

pub returns : goal.returns
returns c =
    reset_bytes _ _ (sym c.in_ok-check_lengths.ensures) _ _ _ _ _ (c.store_record.ensures ∙ ap (λ (r : Record). bytes_of_all 8 (words_in r)) c.fresh.ensures) c.reset_masks.ensures
    (c.fill.ensures.after (λ y q. q)) (c.fill-2.ensures.after (λ y q. q)) (c.fill-3.ensures.after (λ y q. q))
