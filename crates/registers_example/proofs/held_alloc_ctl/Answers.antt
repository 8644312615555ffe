use Rattle.fields.proofs.Registers.{held_lt}
use Rattle.std.proofs.Common.{rules}
use Rattle.registers_example.proofs.held_alloc_ctl.Goals as goal

pub returns : goal.returns
returns c = rw c.held.ensures (search (rules, held_lt c.args.na c.unpack.result.at 3 (search rules)))
