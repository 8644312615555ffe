use mathlib.Core.Path.{sym, ap, ◌∙◌}
use mathlib.Core.List.{List}
use Prim.Native.Nat.{ℕ, ◌-◌}
use native.Mathlib.Omega.{arith}
use lib.ListN.{get_or, replicate}
use lib.Seq.{length-take-le}
use Rattle.bandwidth_model.specs.Rules.{pairs}
use Rattle.bandwidth_model.specs.Waiters.{need_of, waiter_at}
use Rattle.bandwidth_waiters.proofs.Weights.{weight_none, weight_row}
use Rattle.bandwidth_service.proofs.weight_at.Goals as goal

pub returns-then-word-eq0 : goal.returns-then-word-eq0
returns-then-word-eq0 c = weight_none c.requires.0.opens _ (sym c.word-word.ensures ∙ c.if-word-eq0.true)

pub slice_bounds-weight_loaded-end : goal.slice_bounds-weight_loaded-end
slice_bounds-weight_loaded-end c = sym (length-take-le _ (replicate 8 0) (omega (arith, c.row_of-place.ensures.short, c.requires.0.opens.ranges.na_high)))

pub weight_loaded-requires : goal.weight_loaded-requires
unfolding pairs
weight_loaded-requires c =
    let p = c.requires.0 in
    let w = c.row_of-place.ensures in
    let n = c.row_of-place.result.end - c.row_of-place.result.start in
    (p.opens.ranges, (omega (arith, w.order, w.inside, p.active_long), length-take-le {A = ℕ} n (replicate 8 0) (omega (arith, w.short, p.opens.ranges.na_high))))

pub returns : goal.returns
unfolding need_of waiter_at
returns c =
    let is = c.unpack-waiter.ensures.is in
    let word = c.word-word.ensures in
    weight_row c.requires.0.opens _ c.requires.1 c.row_of-place.ensures (λ z. c.if-word-eq0.false (word ∙ z))
    (ap (λ (vs : List ℕ). get_or vs 3 0) is ∙ ap need_of word) (ap (λ (vs : List ℕ). get_or vs 1 0) is ∙ ap waiter_at word) c.weight_loaded.ensures
