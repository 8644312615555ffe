use Rattle.devices.proofs.Laws.{directory, no_directory, context_refusal, register_refusal}
use Rattle.devices.proofs.out_of_range.Goals as goal

pub returns-in-Off : goal.returns-in-Off
returns-in-Off c = register_refusal _ (no_directory _ c.from.ensures c.in-Off.is)

pub returns-in-Directory : goal.returns-in-Directory
returns-in-Directory c = context_refusal _ (directory _ c.from.ensures c.in-Directory.is)
