use native.Mathlib.Omega.{arith}
use Rattle.words.proofs.OneWord.{store_byte}
use Rattle.words.proofs.endian.store_byte.Goals as goal

pub returns : goal.returns
returns c = store_byte c.args.at c.args.w c.args.b.now (omega arith)
