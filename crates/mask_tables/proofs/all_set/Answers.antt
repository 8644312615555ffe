use Rattle.std.proofs.Common.{◌-◌, ◌^◌, ◌∙◌, ap, replicate, arith}
use Rattle.std.proofs.Math.Seq.{length-take-le}
use Rattle.mask_tables.proofs.Loops.{loaded_front, all_ones}
use Rattle.mask_tables.proofs.all_set.Goals as goal

pub returns : goal.returns
returns c =
    let n = c.words_for-n in
    let front = c.fill.ensures.after (λ y e. e) ∙ ap (λ m. replicate m (2 ^ 64 - 1)) (length-take-le n.result (replicate 16 0) (omega arith)) in
    all_ones c.args.c n.result c.highest.result _ c.requires.0 n.ensures.0 n.ensures.1.1 c.highest.ensures (loaded_front n.result (2 ^ 64 - 1) n.ensures.1.1 front)
