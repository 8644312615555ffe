use lib.ListN.{get_or}
use Rattle.bandwidth_wellformed.specs.Bits.{AtMost}
use Rattle.bandwidth_wellformed.proofs.parts.union32.Given as goal

abbrev pub invariant-loop-w : goal.invariant-loop-w
invariant-loop-w l = AtMost (λ k. get_or l.t k 0) l.w-index l.bits
