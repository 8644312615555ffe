use mathlib.Core.Path.{◌≡◌}
use lib.ListN.{length}
use Rattle.tables.specs.View.{union_below}
use Rattle.bandwidth_wellformed.specs.Bits.{over_at}
use Rattle.bandwidth_wellformed.proofs.usage.over_exactly.Given as goal

abbrev pub invariant-loop-u : goal.invariant-loop-u
invariant-loop-u l = l.bits ≡ union_below (length l.yielded) (over_at l.q l.active l.used)
