use mathlib.Core.Path.{◌≡◌}
use native.Mathlib.Omega.{arith}
use Rattle.bandwidth_wellformed.proofs.SumLaws.{span_rows, sums_more, sums_fit}
use Rattle.bandwidth_lent.proofs.Parts.{span_in}
use Rattle.bandwidth_lent.proofs.sums.sum_bytes.Goals as goal

pub loop-r-init : goal.loop-r-init
loop-r-init c = (omega arith, c.no_sums-sums.ensures _ _ _ _ _)

pub sum_part-more-requires : goal.sum_part-more-requires
sum_part-more-requires c =
    let s = c.span_at-s.ensures in
    let p = c.requires in
    (span_in s p.0, (s.short, span_rows s p.1))

pub add_sums-sums-requires : goal.add_sums-sums-requires
add_sums-sums-requires c = sums_fit c.span_at-s.ensures c.loop-r.invariant.1 c.sum_part-more.ensures

pub loop-r-preserved : goal.loop-r-preserved
loop-r-preserved c =
    let s = c.span_at-s.ensures in
    (s.inside, sums_more s c.loop-r.invariant.1 c.sum_part-more.ensures c.add_sums-sums.ensures)

pub returns : goal.returns
returns c =
    let e : c.loop-r.r ≡ c.args.nr = omega arith in
    rw e at c.loop-r.invariant.1
