use native.Mathlib.Omega.{arith}
use lib.ListN.{length-replicate}
use Rattle.listing.proofs.main.Goals as goal

pub listen-requires : goal.listen-requires
listen-requires c = (
  record {
    active_long = simp length-replicate (omega arith);
    configured_long = simp length-replicate (omega arith);
    used_long = simp length-replicate (omega arith);
    counters_long = simp length-replicate (omega arith);
    events_long = simp length-replicate (omega arith);
    waiters_long = simp length-replicate (omega arith);
  },
  (simp length-replicate (omega arith), simp length-replicate (omega arith)),
)
