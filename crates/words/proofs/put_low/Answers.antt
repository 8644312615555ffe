use Rattle.std.proofs.Common.{◌∙◌}
use Rattle.words.proofs.OneWord.{put_low}
use Rattle.words.proofs.put_low.Goals as goal

pub returns : goal.returns
returns g c = c.put.ensures ∙ put_low g.W.LittleEndian.BYTES _ _ _ _ c.low.ensures
