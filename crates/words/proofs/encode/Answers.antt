use Rattle.std.proofs.Common.{◌<◌, ◌≤◌, ◌∙◌, length, map, sym, ap, arith}
use Rattle.std.proofs.lemmas.List.{get_or-map, length-map}
use Rattle.words.specs.Words.{bytes_of_all, stored}
use Rattle.words.proofs.Loop.{encode_turn, encode_end}
use Rattle.words.proofs.encode.Goals as goal

pub loop-i-preserved : goal.loop-i-preserved
loop-i-preserved g c =
    let w = g.W.LittleEndian in
    let l = c.loop-i in
    let there : l.i < length c.args.words.now = omega arith in
    let more : l.i < length (map w.number c.args.words.now) = rw length-map there in
    let read = ap w.number c.index-words-i.is ∙ sym (get_or-map w.number c.args.words.now l.i c.index-words-i.result 0 there) in
    encode_turn l.invariant more ((rw c.BYTES.ensures at c.store.ensures) ∙ ap (stored w.BYTES l.bytes _) read)

pub returns : goal.returns
returns g c =
    let w = g.W.LittleEndian in
    let all : length (map w.number c.args.words.now) ≤ c.loop-i.i = rw length-map (omega arith) in
    encode_end c.loop-i.invariant all ∙ ap (bytes_of_all w.BYTES) (sym (g.met.W.LittleEndian.numbers_are _))
