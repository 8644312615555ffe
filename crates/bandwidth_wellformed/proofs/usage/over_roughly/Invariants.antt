use Prim.Native.Nat.{◌^◌}
use lib.ListN.{length}
use Rattle.bandwidth_wellformed.specs.Bits.{over_at, AtMost}
use Rattle.bandwidth_wellformed.proofs.usage.over_roughly.Given as goal

abbrev pub invariant-loop-u : goal.invariant-loop-u
invariant-loop-u l = AtMost (over_at (2 ^ l.shift) l.active l.used) (length l.yielded) l.bits
