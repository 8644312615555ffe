use Rattle.std.proofs.Common.{length, ap, ◌∙◌, arith, length-set}
use Rattle.mask_tables.proofs.Put.{put_highest, put_whole}
use Rattle.mask_tables.proofs.put_word.Goals as goal

pub returns-then-i-words_for : goal.returns-then-i-words_for
returns-then-i-words_for c =
    let a = c.args in (
      simp length-set at (ap length c.put.ensures) ∙ c.requires.0,
      put_highest a.c a.i a.w a.mask.now (λ j. (c.slice_known-1.given j).fits) (omega arith) c.requires.1.1 (omega arith) _ _ _
          c.words_for.ensures.0 c.highest.ensures (omega arith) c.put.ensures,
    )

pub returns-else-i-words_for : goal.returns-else-i-words_for
returns-else-i-words_for c =
    let a = c.args in (
      simp length-set at (ap length c.put-else-i-words_for.ensures) ∙ c.requires.0,
      put_whole a.c a.i a.w a.mask.now (λ j. (c.slice_known-1.given j).fits) (omega arith) c.requires.1.1 (omega arith) _ _
          c.words_for.ensures.0 (λ e. omega arith) c.put-else-i-words_for.ensures,
    )
