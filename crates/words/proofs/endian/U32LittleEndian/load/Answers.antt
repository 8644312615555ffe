use Rattle.std.proofs.Common.{◌∙◌}
use Rattle.words.proofs.Library.{chunk_word}
use Rattle.words.proofs.endian.U32LittleEndian.load.Goals as goal

pub returns : goal.returns
returns c = c.from_le_bytes.ensures ∙ chunk_word 3 c.args.at c.args.bytes.now c.chunk.result c.requires c.chunk.ensures
