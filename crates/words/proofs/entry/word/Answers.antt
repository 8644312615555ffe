use Rattle.words.proofs.Parts.{entry_at, entry_none}
use Rattle.words.proofs.entry.word.Goals as goal

pub returns-then-i-bytes : goal.returns-then-i-bytes
returns-then-i-bytes g c =
    entry_at g.W.LittleEndian.BYTES _ _ _ _ (rw c.BYTES.ensures at c.if-i-bytes.true) (rw c.BYTES-then-i-bytes.ensures at c.load.ensures)

pub returns-else-i-bytes : goal.returns-else-i-bytes
returns-else-i-bytes g c = entry_none g.W.LittleEndian.BYTES _ _ _ (rw c.BYTES.ensures at c.if-i-bytes.false)
