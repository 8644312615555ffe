use mathlib.Core.Path.{sym, ◌∙◌}
use Prim.Native.Nat.{ℕ}
use lib.ListN.{replicate}
use lib.Seq.{length-take-le}
use Rattle.tables.proofs.Tests.{of_true}
use Rattle.bandwidth_wellformed.proofs.SumLaws.{zeros_none}
use Rattle.bandwidth_lent.proofs.Parts.{part_words}
use Rattle.bandwidth_lent.proofs.sums.sum_part.Goals as goal

pub returns-then-zero_part : goal.returns-then-zero_part
returns-then-zero_part c =
    let p = c.requires in
    zeros_none (p.1.1.active_long ∙ part_words c.args.from c.args.n c.args.active.now p.0.active_in) (c.zero_part.ensures (of_true c.if-zero_part.true)) (c.no_sums.ensures _ _ _ _ _)

pub slice_bounds-sum_loaded-end : goal.slice_bounds-sum_loaded-end
slice_bounds-sum_loaded-end c = sym (length-take-le _ (replicate 64 0) c.requires.1.0)

pub slice_bounds-sum_loaded-end-2 : goal.slice_bounds-sum_loaded-end-2
slice_bounds-sum_loaded-end-2 c = sym (length-take-le _ (replicate 64 0) c.requires.1.0)

pub slice_bounds-sum_loaded-end-3 : goal.slice_bounds-sum_loaded-end-3
slice_bounds-sum_loaded-end-3 c = sym (length-take-le _ (replicate 64 0) c.requires.1.0)

pub sum_loaded-requires : goal.sum_loaded-requires
sum_loaded-requires c =
    let p = c.requires in
    let long = length-take-le {A = ℕ} c.args.n (replicate 64 0) p.1.0 in
    (p.0, (record { a_long = long; c_long = long; u_long = long }, p.1.1))
