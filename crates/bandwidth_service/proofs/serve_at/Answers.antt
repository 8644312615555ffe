use mathlib.Core.Path.{sym, ap, ◌∙◌}
use mathlib.Core.List.{List, []}
use Prim.Native.Nat.{ℕ}
use native.Mathlib.Omega.{arith}
use lib.ListN.{get_or}
use Rattle.bandwidth_model.specs.Rules.{pairs}
use Rattle.bandwidth_model.specs.Waiters.{need_of, waiter_mcid, waiter_at, waiter_kind, served_word}
use Rattle.bandwidth_waiters.proofs.Turns.{turn_opens}
use Rattle.bandwidth_service.proofs.Turns.{turned_none, turned_one}
use Rattle.bandwidth_service.proofs.serve_at.Goals as goal

pub returns-then-word-eq0 : goal.returns-then-word-eq0
returns-then-word-eq0 c = turned_none c.requires c.args.weights (sym c.word-word.ensures ∙ c.if-word-eq0.true)

pub serve_bytes-given-requires : goal.serve_bytes-given-requires
unfolding pairs
serve_bytes-given-requires c =
    let p = c.requires in
    let w = c.row_of-place.ensures in (
      record {
        active_in = omega (arith, w.order, w.inside, p.active_long);
        used_in = omega (arith, w.order, w.inside, p.used_long);
        opens = turn_opens _ _ [] _ 0 _ _ p.ready w _ c.unpack-waiter.ensures.fits.1.1.1.0;
      },
      omega (arith, w.short, p.ready.ranges.na_high),
    )

pub count_bytes-requires : goal.count_bytes-requires
count_bytes-requires c = (c.requires.ready.ranges.w_high, omega (arith, c.serve_bytes-given.ensures.served.small, c.unpack-waiter.ensures.fits.1.1.1.0))

pub returns : goal.returns
unfolding need_of waiter_mcid waiter_at waiter_kind
returns c =
    let is = c.unpack-waiter.ensures.is in
    let word = c.word-word.ensures in
    let g = c.serve_bytes-given in
    turned_one c.requires c.row_of-place.ensures c.args.weights (λ z. c.if-word-eq0.false (word ∙ z))
    (ap (λ (vs : List ℕ). get_or vs 3 0) is ∙ ap need_of word) (ap (λ (vs : List ℕ). get_or vs 2 0) is ∙ ap waiter_mcid word)
    (ap (λ (vs : List ℕ). get_or vs 1 0) is ∙ ap waiter_at word) (ap (λ (vs : List ℕ). get_or vs 0 0) is ∙ ap waiter_kind word)
    g.ensures c.count_bytes.ensures c.put.ensures (c.served_word.ensures ∙ ap (λ (n : ℕ). served_word n g.result.sum) word)
