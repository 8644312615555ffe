use mathlib.Core.Path.{sym, ap, ◌∙◌}
use mathlib.Core.List.{List}
use Prim.Native.Nat.{ℕ}
use native.Mathlib.Omega.{arith}
use lib.ListN.{get_or}
use Rattle.bandwidth_setup.specs.View.{setup_of}
use Rattle.bandwidth_model.specs.Waiters.{need_of, waiter_at}
use Rattle.bandwidth_settings.proofs.Rows.{row_end}
use Rattle.bandwidth_waiters.proofs.Weights.{weight_none, weight_row}
use Rattle.bandwidth_waiters.proofs.service.weight_at.Goals as goal

pub returns-then-word-eq0 : goal.returns-then-word-eq0
returns-then-word-eq0 c =
    let w = c.before in
    weight_none w.requires.0 _ (sym w.word-word.ensures ∙ c.if-word-eq0.true)

pub slice_bounds-share_weight-end : goal.slice_bounds-share_weight-end
slice_bounds-share_weight-end c =
    let a = c.before in
    omega (arith, row_end (setup_of a.args.setup) a.args.active.now a.requires.0.active_long c.row_of-row.ensures)

pub returns : goal.returns
unfolding need_of waiter_at
returns c =
    let r = c.before in
    let u = r.before in
    let e = u.before in
    let w = e.before in
    let a = w.before in
    let is = u.unpack-waiter.ensures.is in
    let word = w.word-word.ensures in
    weight_row a.requires.0 _ a.requires.1 r.row_of-row.ensures (λ z. e.if-word-eq0.false (word ∙ z))
    (ap (λ (vs : List ℕ). get_or vs 3 0) is ∙ ap need_of word) (ap (λ (vs : List ℕ). get_or vs 1 0) is ∙ ap waiter_at word) c.share_weight.ensures
