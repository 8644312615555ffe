use Rattle.words.proofs.OneWord.{bytes_low}
use Rattle.words.proofs.endian.U32LittleEndian.low.Goals as goal

pub returns : goal.returns
returns c = bytes_low 4 c.args.w
