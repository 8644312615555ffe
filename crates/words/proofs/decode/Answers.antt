use Rattle.std.proofs.Common.{◌<◌, ◌≤◌, length, map, ◌∙◌, arith}
use Rattle.std.proofs.lemmas.List.{map-set, length-map}
use Rattle.words.proofs.Loop.{decode_turn, decode_end}
use Rattle.words.proofs.decode.Goals as goal

pub loop-i-preserved : goal.loop-i-preserved
loop-i-preserved g c =
    let w = g.W.LittleEndian in
    let more : c.loop-i.i < length (map w.number c.args.words.now) = rw length-map (omega arith) in
    rw map-set (decode_turn c.loop-i.invariant more (w.number c.load.result) (rw c.BYTES.ensures at c.load.ensures))

pub returns : goal.returns
returns g c =
    let w = g.W.LittleEndian in
    let all : length (map w.number c.args.words.now) ≤ c.loop-i.i = rw length-map (omega arith) in
    g.met.W.LittleEndian.numbers_are _ ∙ rw length-map at (decode_end c.loop-i.invariant all)
