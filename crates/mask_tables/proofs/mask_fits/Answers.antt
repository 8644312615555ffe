use Rattle.std.proofs.Common.{refl, arith}
use Rattle.numbers.proofs.Lists.{number_fits}
use Rattle.mask_tables.proofs.mask_fits.Goals as goal

pub returns : goal.returns
returns c =
    let n = c.words_for-n.ensures.0 in
    let a = c.args in
    rw n (number_fits a.c a.mask.now _ _ _ c.requires.1.0 (omega arith) (λ j. (c.type_inv.mask j).fits) refl (rw n at c.union64.ensures) c.highest.ensures)
