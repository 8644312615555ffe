use Rattle.tables.proofs.Tests.{and_l, and_r, of_true}
use Rattle.bandwidth_lent.proofs.sums.zero_part.Goals as goal

pub returns-then-word-ne0 : goal.returns-then-word-ne0
returns-then-word-ne0 c t = absurd t

pub returns-then-zero_words : goal.returns-then-zero_words
returns-then-zero_words c t = record {
  active_none = c.zero_words.ensures (of_true c.if-zero_words.true);
  configured_none = c.zero_words-then-zero_words.ensures (and_l c.zero_words-then-zero_words.result c.zero_words-then-zero_words-2.result t);
  used_none = c.zero_words-then-zero_words-2.ensures (and_r c.zero_words-then-zero_words.result c.zero_words-then-zero_words-2.result t);
}

pub returns-else-zero_words : goal.returns-else-zero_words
returns-else-zero_words c t = absurd t
