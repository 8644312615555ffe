use mathlib.Core.Path.{refl, ◌∙◌}
use Rattle.bandwidth_model.specs.Waiters.{held_word}
use Rattle.bandwidth_waiters.proofs.held_word.Goals as goal

pub returns-in-None : goal.returns-in-None
unfolding held_word
returns-in-None c = rw c.in-None.is refl

pub returns-in-Some : goal.returns-in-Some
unfolding held_word
returns-in-Some c = rw c.in-Some.is (c.from.ensures ∙ c.word.ensures)
