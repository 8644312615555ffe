use native.Mathlib.Omega.{arith}
use Rattle.bandwidth_wellformed.proofs.SumLaws.{span_is}
use Rattle.bandwidth_wellformed.proofs.parts.span_at.Goals as goal

pub overflow_mul-result : goal.overflow_mul-result
overflow_mul-result c =
    let e = c.part_end-next.ensures in
    let s = span_is _ _ _ _ _ e.0 e.1.0 e.1.1 c.part_rows.ensures.1 c.requires.1.1 in
    record { fits = omega (arith, s.order, s.few) }

pub overflow_mul-result-2 : goal.overflow_mul-result-2
overflow_mul-result-2 c =
    let e = c.part_end-next.ensures in
    let s = span_is _ _ _ _ _ e.0 e.1.0 e.1.1 c.part_rows.ensures.1 c.requires.1.1 in
    record { fits = omega (arith, s.order, s.few) }

pub returns : goal.returns
returns c =
    let e = c.part_end-next.ensures in
    span_is _ _ _ _ _ e.0 e.1.0 e.1.1 c.part_rows.ensures.1 c.requires.1.1
