use Rattle.std.proofs.Common.{◌+◌, ◌≤◌, get_or}
use Rattle.mask_tables.proofs.Loops.{Loaded}
use Rattle.mask_tables.proofs.table.load.Given as goal

abbrev pub invariant-loop-i : goal.invariant-loop-i
invariant-loop-i g l =
    (l.i ≤ l.n) × Loaded (λ k. get_or (g.S.Storage.words_in l.masks) (l.from + k) 0) l.mask l.i
