use Rattle.std.proofs.Common.{◌-◌, get_or}
use Rattle.mask_tables.proofs.Loops.{Gathered}
use Rattle.mask_tables.proofs.table.tops.Given as goal

abbrev pub invariant-loop-at : goal.invariant-loop-at
invariant-loop-at g l = Gathered l.n l.end (λ i. get_or (g.S.Storage.words_in l.masks) i 0) l.bits l.at

abbrev pub decreases-loop-at : goal.decreases-loop-at
decreases-loop-at g l = l.end - l.at
