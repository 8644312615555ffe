use native.Mathlib.Nat.{le_trans}
use native.Mathlib.Omega.{arith}
use Rattle.bandwidth_bytes.proofs.Calls.{give_in, served}
use Rattle.bandwidth_bytes.proofs.request.serve.Goals as goal

pub give_bytes-gave-requires : goal.give_bytes-gave-requires
give_bytes-gave-requires c =
    let w = c.row_of-place.ensures in
    (give_in c.requires.0 c.args.rcid c.args.mcid c.args.at c.args.kind c.args.bytes c.requires.1 c.known_at-at.ensures w, le_trans w.short c.requires.0.passes.ranges.na_high)

pub count_bytes-requires : goal.count_bytes-requires
count_bytes-requires c = (c.requires.0.passes.ranges.w_high, omega (arith, c.give_bytes-gave.ensures.given.small, c.ranges.bytes))

pub returns : goal.returns
returns c =
    served c.requires.0 c.args.rcid c.args.mcid c.args.at c.args.kind c.args.bytes c.requires.1 c.known_at-at.ensures c.row_of-place.ensures c.give_bytes-gave.ensures
    c.put.ensures c.count_bytes.ensures
