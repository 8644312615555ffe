use Rattle.words.proofs.OneWord.{put_inside, put_outside}
use Rattle.words.proofs.put.Goals as goal

pub returns-then-i-bytes : goal.returns-then-i-bytes
returns-then-i-bytes g c =
    put_inside g.W.LittleEndian.BYTES _ _ _ _ (rw c.BYTES.ensures at c.if-i-bytes.true) (rw c.BYTES-then-i-bytes.ensures at c.store.ensures)

pub returns-else-i-bytes : goal.returns-else-i-bytes
returns-else-i-bytes g c = put_outside g.W.LittleEndian.BYTES _ _ _ (rw c.BYTES.ensures at c.if-i-bytes.false)
