use mathlib.Core.Path.{sym}
use Rattle.std.proofs.lemmas.Result.{err_from_is_err_and}
use Rattle.capacity_bytes.proofs.Calls.{refused_12, held_ranges, held_sized, tested_passed, tested_failed}
use Rattle.capacity_bytes.proofs.check.checked.Goals as goal

pub returns-in_err-held : goal.returns-in_err-held
returns-in_err-held c =
    let p = err_from_is_err_and c.from_residual.result c.from_residual.ensures.1 in
    rw (p.1, p.2) (refused_12 _ c.in_err-held.field-0.0 c.in_err-held.ensures.refusal)

pub well_formed-requires : goal.well_formed-requires
well_formed-requires c =
    let h = c.in_ok-held.ensures in
    (held_ranges _ _ h.loaded (sym h.refusal), held_sized _ _ h.loaded (sym h.refusal))

pub returns-then-well_formed : goal.returns-then-well_formed
returns-then-well_formed c =
    let h = c.in_ok-held.ensures in
    tested_passed _ _ h.loaded (sym h.refusal) _ c.well_formed-2.ensures c.if-well_formed.true (λ i. (c.type_inv.record i).fits)
    (λ i. (c.type_inv.masks i).fits) (λ i. (c.type_inv.counters i).fits) (λ i. (c.type_inv.events i).fits) (λ i. (c.type_inv.owners i).fits)

pub returns-else-well_formed : goal.returns-else-well_formed
returns-else-well_formed c =
    let h = c.in_ok-held.ensures in
    tested_failed _ _ h.loaded (sym h.refusal) _ c.well_formed-2.ensures c.if-well_formed.false
