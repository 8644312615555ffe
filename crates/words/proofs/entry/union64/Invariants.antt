use Rattle.std.proofs.Common.{◌≡◌, get_or}
use Rattle.tables.specs.View.{union_below}
use Rattle.words.specs.Words.{table_of}
use Rattle.words.proofs.entry.union64.Given as goal

abbrev pub invariant-loop-word : goal.invariant-loop-word
invariant-loop-word l = l.bits ≡ union_below l.word-index (λ k. get_or (table_of 8 l.b) k 0)
