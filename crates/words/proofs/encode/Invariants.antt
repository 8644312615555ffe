use Rattle.std.proofs.Common.{map}
use Rattle.words.proofs.Loop.{Encoding}
use Rattle.words.proofs.encode.Given as goal

abbrev pub invariant-loop-i : goal.invariant-loop-i
invariant-loop-i g l =
    let w = g.W.LittleEndian in Encoding w.BYTES l.i (map w.number l.words) l.initial.bytes l.bytes
