use lib.ListN.{get_or}
use Rattle.tables.specs.Parts.{part}
use Rattle.words.specs.Words.{table_of}
use Rattle.bandwidth_wellformed.specs.Bits.{AtMost}
use Rattle.bandwidth_lent.proofs.sums.zero_words.Given as goal

abbrev pub invariant-loop-i : goal.invariant-loop-i
invariant-loop-i l = AtMost (λ k. get_or (part l.from l.n (table_of 4 l.b)) k 0) l.i l.bits
