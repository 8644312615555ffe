use Rattle.fields.proofs.Registers.{held_lt}
use Rattle.std.proofs.Common.{rules}
use Rattle.registers_example.proofs.held_mon_ctl.Goals as goal

pub returns : goal.returns
returns c =
    let held = held_lt c.args.na in
    let fields = c.unpack.result in
    rw c.held.ensures (search (rules, held fields.at 3 (search rules), held fields.atv 1 (search rules)))
