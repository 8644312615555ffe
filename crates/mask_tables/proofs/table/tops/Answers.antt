use Rattle.std.proofs.Common.{sym, ◌∙◌, arith}
use Rattle.mask_tables.proofs.Loops.{gathered_none, gathered_next, gathered_end, one_word}
use Rattle.mask_tables.proofs.table.tops.Goals as goal

pub returns-then-n-eq1 : goal.returns-then-n-eq1
returns-then-n-eq1 g c =
    let words = g.S.Storage.words_in c.args.masks.now in
    λ k e. one_word c.args.n words c.if-n-eq1.true _ c.union_of.ensures k (sym c.count-end.ensures.is ∙ c.count-end.ensures.sized _ e)

pub loop-at-init : goal.loop-at-init
loop-at-init g c = gathered_none c.requires.0

pub loop-at-preserved : goal.loop-at-preserved
loop-at-preserved g c = gathered_next c.requires.0 (omega arith) c.word_at-bits.ensures c.loop-at.invariant

pub returns : goal.returns
returns g c = λ k e. gathered_end c.requires.0 (omega arith) c.loop-at.invariant k (c.count-end.ensures.sized _ e)
