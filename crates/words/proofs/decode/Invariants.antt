use Rattle.std.proofs.Common.{map}
use Rattle.words.proofs.Loop.{Decoding}
use Rattle.words.proofs.decode.Given as goal

abbrev pub invariant-loop-i : goal.invariant-loop-i
invariant-loop-i g l =
    let w = g.W.LittleEndian in Decoding w.BYTES l.i l.bytes (map w.number l.initial.words) (map w.number l.words)
