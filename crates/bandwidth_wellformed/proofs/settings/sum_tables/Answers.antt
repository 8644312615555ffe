use mathlib.Core.Path.{◌≡◌}
use native.Mathlib.Omega.{arith}
use Rattle.bandwidth_wellformed.proofs.SumLaws.{span_rows, sums_more, sums_fit}
use Rattle.bandwidth_wellformed.proofs.settings.sum_tables.Goals as goal

pub loop-r-init : goal.loop-r-init
loop-r-init c = (omega arith, c.no_sums-sums.ensures _ _ _ _ _)

pub sum_rows-more-requires : goal.sum_rows-more-requires
sum_rows-more-requires c = span_rows c.span_at-next.ensures c.requires

pub add_sums-sums-requires : goal.add_sums-sums-requires
add_sums-sums-requires c = sums_fit c.span_at-next.ensures c.loop-r.invariant.1 c.sum_rows-more.ensures

pub loop-r-preserved : goal.loop-r-preserved
loop-r-preserved c =
    let s = c.span_at-next.ensures in
    (s.inside, sums_more s c.loop-r.invariant.1 c.sum_rows-more.ensures c.add_sums-sums.ensures)

pub returns : goal.returns
returns c =
    let e : c.loop-r.r ≡ c.args.nr = omega arith in
    rw e at c.loop-r.invariant.1
