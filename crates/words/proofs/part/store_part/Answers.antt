use Rattle.std.proofs.Common.{◌≡◌, length, refl, ap, ◌∙◌}
use Rattle.std.proofs.lemmas.List.{length-map}
use Rattle.words.proofs.Parts.{put_part}
use Rattle.words.proofs.part.store_part.Goals as goal

pub returns : goal.returns
returns g c =
    let w = g.W.LittleEndian in
    let words = c.args.words.now in
    let long : length (w.numbers words) ≡ length words = ap length (g.met.W.LittleEndian.numbers_are words) ∙ length-map words w.number in
    rw (c.BYTES.ensures, c.BYTES-2.ensures, ← long)
    (put_part w.BYTES _ _ _ (w.numbers words) _ g.met.W.LittleEndian.some_bytes (rw (← long) at c.requires) refl c.encode.ensures)
