use Rattle.devices.proofs.Laws.{directory, no_directory, in_context, in_register}
use Rattle.devices.proofs.identifiers_in.Goals as goal

pub returns-in-Off : goal.returns-in-Off
returns-in-Off c = in_register _ _ _ _ (no_directory _ c.from.ensures c.in-Off.is) c.unpack-qosid.ensures.is

pub returns-in-Directory : goal.returns-in-Directory
returns-in-Directory c = in_context _ _ _ _ (directory _ c.from.ensures c.in-Directory.is) c.unpack-ta.ensures.is
