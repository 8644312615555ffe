use Rattle.std.proofs.Common.{◌≡◌, length, arith, sym}
use Rattle.tables.proofs.Union.{union_none, union_next}
use Rattle.tables.proofs.union64.Goals as goal

pub loop-w-init : goal.loop-w-init
loop-w-init c = sym (union_none _)

pub loop-w-preserved : goal.loop-w-preserved
loop-w-preserved c = rw union_next (cc)

pub returns : goal.returns
returns c = let e : c.loop-w.w-index ≡ length c.args.t.now = omega arith in cc
