use lib.ListN.{length, get_or}
use Rattle.tables.proofs.Laws.{Filled}
use Rattle.bandwidth_bytes.proofs.window.copy_bytes.Given as goal

abbrev pub invariant-loop-i : goal.invariant-loop-i
invariant-loop-i l = Filled 0 (λ k. get_or l.from k 0) (length l.initial.to) l.to l.i
