use mathlib.Core.Path.{ap}
use mathlib.Core.List.{List}
use Prim.Native.Nat.{ℕ}
use lib.ListN.{get_or}
use Rattle.bandwidth_model.specs.Waiters.{need_of}
use Rattle.bandwidth_waiters.proofs.words.need_of.Goals as goal

pub returns : goal.returns
unfolding need_of
returns c = ap (λ (vs : List ℕ). get_or vs 3 0) c.unpack.ensures.is
