use native.Mathlib.Omega.{arith}
use Rattle.words.proofs.OneWord.{store_join}
use Rattle.words.proofs.endian.store_2.Goals as goal

pub returns : goal.returns
returns c =
    let a = c.args in
    cc (store_join 1 1 a.at a.w a.b.now (omega arith))
