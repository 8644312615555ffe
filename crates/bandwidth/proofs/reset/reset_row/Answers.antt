use mathlib.Core.Path.{refl, ◌∙◌}
use Rattle.bandwidth_model.specs.Rules.{holder_word, sharer_word}
use Rattle.bandwidth.specs.View.{reset_row}
use Rattle.bandwidth.proofs.reset.reset_row.Goals as goal

pub returns : goal.returns
unfolding reset_row holder_word sharer_word
returns c =
    c.put.ensures
    ∙ rw (c.fill.ensures.after (λ _ e. e), c.pack-sharer.ensures, c.pack-holder.ensures) refl
