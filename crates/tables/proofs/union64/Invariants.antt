use Rattle.std.proofs.Common.{◌≡◌, get_or}
use Rattle.tables.specs.View.{union_below}
use Rattle.tables.proofs.union64.Given as goal

abbrev pub invariant-loop-w : goal.invariant-loop-w
invariant-loop-w l = l.bits ≡ union_below l.w-index (λ k. get_or l.t k 0)
