use Rattle.std.proofs.Common.{◌∙◌}
use Rattle.words.proofs.Library.{chunk_word}
use Rattle.words.proofs.endian.U16LittleEndian.load.Goals as goal

pub returns : goal.returns
returns c = c.from_le_bytes.ensures ∙ chunk_word 1 c.args.at c.args.bytes.now c.chunk.result c.requires c.chunk.ensures
