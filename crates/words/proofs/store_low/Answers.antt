use Rattle.std.proofs.Common.{◌∙◌}
use Rattle.words.proofs.OneWord.{stored_low}
use Rattle.words.proofs.store_low.Goals as goal

pub returns : goal.returns
returns g c = c.store.ensures ∙ stored_low g.W.LittleEndian.BYTES _ _ _ _ c.low.ensures
