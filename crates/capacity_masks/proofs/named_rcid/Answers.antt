use mathlib.Core.Path.{ap}
use mathlib.Core.List.{List}
use Prim.Native.Nat.{ℕ}
use lib.ListN.{get_or}
use Rattle.allocation.specs.Allocation.{rcid_of}
use Rattle.capacity_masks.proofs.named_rcid.Goals as goal

pub returns : goal.returns
unfolding rcid_of
returns c = ap (λ (l : List ℕ). get_or l 2 0) c.unpack.ensures.is
