use Rattle.std.proofs.Common.{◌≡◌, arith}
use Rattle.numbers.specs.Numbers.{number_at}
use Rattle.mask_tables.proofs.Loops.{loaded_none, loaded_next, loaded_end}
use Rattle.mask_tables.proofs.table.load.Goals as goal

pub loop-i-init : goal.loop-i-init
loop-i-init g c = (omega arith, loaded_none)

pub loop-i-preserved : goal.loop-i-preserved
loop-i-preserved g c = (omega arith, loaded_next (omega arith) c.word_at.ensures c.loop-i.invariant.1)

pub returns : goal.returns
unfolding number_at
returns g c =
    let l = c.loop-i in
    let e : l.i ≡ c.args.n = omega arith in
    loaded_end (omega arith) (rw e at l.invariant.1)
