use mathlib.Core.Path.{◌∙◌}
use Rattle.numbers.proofs.Lists.{number_word}
use Rattle.mask_tables.proofs.mask_word.Goals as goal

pub returns : goal.returns
returns c =
    let a = c.args in
    c.word.ensures ∙ number_word a.mask.now (λ j. (c.type_inv.mask j).fits) a.i
