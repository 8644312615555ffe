use Rattle.fields.specs.Registers.{mon_ctl}
use Rattle.fields.proofs.Laws.{unpacked}
use Rattle.fields.proofs.MonCtl.unpack.Goals as goal

pub returns : goal.returns
returns c = unpacked mon_ctl _ _ (cc)
