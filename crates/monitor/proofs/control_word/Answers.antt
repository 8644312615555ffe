use mathlib.Core.Path.{◌∙◌}
use Rattle.monitor.proofs.Steps.{word_of}
use Rattle.monitor.proofs.control_word.Goals as goal

pub returns : goal.returns
returns c = c.pack.ensures ∙ word_of _ _ _ c.unpack_held.ensures _
