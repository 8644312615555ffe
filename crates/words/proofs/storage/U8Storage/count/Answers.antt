use Rattle.std.proofs.Common.{sym}
use Rattle.words.proofs.Parts.{entries}
use Rattle.words.proofs.storage.U8Storage.count.Goals as goal

pub returns-clause-is : goal.returns-clause-is
returns-clause-is c = sym (entries 8 c.args.table.now)
