use Rattle.words.proofs.Parts.{loaded}
use Rattle.words.proofs.part.load_part.Goals as goal

pub returns : goal.returns
returns g c = loaded g.W.LittleEndian.BYTES _ _ _ _ g.met.W.LittleEndian.some_bytes c.requires (rw c.BYTES.ensures at c.decode.ensures)
