use Rattle.words.proofs.OneWord.{bytes_low}
use Rattle.words.proofs.endian.U16LittleEndian.low.Goals as goal

pub returns : goal.returns
returns c = bytes_low 2 c.args.w
