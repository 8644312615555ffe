use Rattle.numbers.proofs.Lists.{tops_test}
use Rattle.mask_tables.proofs.tops_fit.Goals as goal

pub returns : goal.returns
returns c = λ k t h e. tops_test c.args.c k c.args.bits _ t c.requires.0 h c.highest.ensures e
