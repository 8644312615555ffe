use mathlib.Core.Path.{sym, ap, ◌∙◌}
use mathlib.Core.List.{List, []}
use Prim.Native.Nat.{ℕ}
use native.Mathlib.Omega.{arith}
use lib.ListN.{get_or, set}
use Rattle.bandwidth_setup.specs.View.{setup_of}
use Rattle.bandwidth_model.specs.Waiters.{need_of, waiter_mcid, waiter_at, waiter_kind, served_word}
use Rattle.bandwidth_settings.proofs.Rows.{row_end}
use Rattle.bandwidth_waiters.proofs.Turns.{turn_none, turn_opens, turn_one}
use Rattle.bandwidth_waiters.proofs.service.serve_at.Goals as goal

pub returns-then-word-eq0 : goal.returns-then-word-eq0
returns-then-word-eq0 c =
    turn_none _ _ _ _ _ _ _ (sym c.word-word.ensures ∙ c.if-word-eq0.true)

pub slice_bounds-serve-end : goal.slice_bounds-serve-end
slice_bounds-serve-end c =
    omega (arith, row_end (setup_of c.args.setup) c.args.active.now c.requires.active_long c.row_of-start.ensures)

pub slice_bounds-serve-end-2 : goal.slice_bounds-serve-end-2
slice_bounds-serve-end-2 c =
    omega (arith, row_end (setup_of c.args.setup) c.args.used.now c.requires.used_long c.row_of-start.ensures)

pub serve-given-requires : goal.serve-given-requires
serve-given-requires c =
    turn_opens _ _ [] _ 0 _ _ c.requires c.row_of-start.ensures _ c.unpack-waiter.ensures.fits.1.1.1.0

pub count_bytes-requires : goal.count_bytes-requires
count_bytes-requires c =
    (c.requires.ranges.w_high, omega (arith, c.serve-given.ensures.small, c.unpack-waiter.ensures.fits.1.1.1.0))

pub returns : goal.returns
unfolding need_of waiter_mcid waiter_at waiter_kind
returns c =
    let is = c.unpack-waiter.ensures.is in
    let word = c.word-word.ensures in
    turn_one _ _ _ _ _ _ _ c.requires c.row_of-start.ensures (λ z. c.if-word-eq0.false (word ∙ z))
    (ap (λ (vs : List ℕ). get_or vs 3 0) is ∙ ap need_of word) (ap (λ (vs : List ℕ). get_or vs 2 0) is ∙ ap waiter_mcid word)
    (ap (λ (vs : List ℕ). get_or vs 1 0) is ∙ ap waiter_at word) (ap (λ (vs : List ℕ). get_or vs 0 0) is ∙ ap waiter_kind word)
    c.serve-given.ensures c.count_bytes.ensures (c.put.ensures ∙ ap (set c.args.waiters.now c.args.rcid) (c.served_word.ensures ∙ ap (λ (n : ℕ). served_word n c.serve-given.result.sum) word))
