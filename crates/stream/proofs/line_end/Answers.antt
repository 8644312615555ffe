use native.Mathlib.Omega.{arith}
use Rattle.std.proofs.Common.{rules}
use Rattle.stream.proofs.Laws.{span_end, span_stop, span_more}
use Rattle.stream.proofs.line_end.Goals as goal

pub returns-then-chunk-i-eq10 : goal.returns-then-chunk-i-eq10
returns-then-chunk-i-eq10 c =
    let s = c.args.chunk.now in
    let l = c.loop-i in
    record { is = omega (arith, span_stop s l.i (omega arith) c.if-chunk-i-eq10.true); most = search rules; stop = λ h. c.if-chunk-i-eq10.true }

pub loop-i-preserved : goal.loop-i-preserved
loop-i-preserved c =
    let s = c.args.chunk.now in
    let l = c.loop-i in
    omega (arith, span_more s l.i (omega arith) c.if-chunk-i-eq10.false)

pub returns : goal.returns
returns c =
    let s = c.args.chunk.now in
    let l = c.loop-i in
    record { is = omega (arith, span_end s l.i (omega arith)); most = search rules; stop = λ h. absurd (omega arith) }
