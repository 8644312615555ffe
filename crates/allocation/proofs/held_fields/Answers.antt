use native.Mathlib.Omega.{arith}
use Rattle.fields.proofs.Registers.{held_lt}
use Rattle.allocation.specs.Allocation.{op_of, rcid_of, at_of, status_of}
use Rattle.allocation.proofs.held_fields.Goals as goal

pub returns : goal.returns
unfolding op_of rcid_of at_of status_of
returns c =
    let f = c.unpack.result in
    rw c.held.ensures
    (record {
      op_is = cc;
      op_low = omega arith;
      at_is = cc;
      at_low = held_lt c.args.na f.at 3 (omega arith);
      rcid_is = cc;
      rcid_low = omega arith;
      status_is = cc;
      status_low = omega arith;
    })
