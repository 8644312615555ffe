use Rattle.numbers.proofs.Lists.{number_zero}
use Rattle.mask_tables.proofs.is_empty.Goals as goal

pub returns : goal.returns
returns c = rw c.union64.ensures (number_zero c.args.mask.now (λ j. (c.type_inv.mask j).fits))
