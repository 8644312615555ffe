use mathlib.Core.Path.{sym}
use native.Mathlib.Omega.{arith}
use Rattle.tables.proofs.Laws.{sum_none, sum_next}
use Rattle.tables.proofs.Union.{union_none, union_next}
use Rattle.bandwidth_wellformed.specs.Bits.{form_at, blocks_at}
use Rattle.bandwidth_wellformed.proofs.Passes.{blocks_low}
use Rattle.bandwidth_wellformed.proofs.settings.scan_words.Goals as goal

pub loop-w-init : goal.loop-w-init
loop-w-init c = record { any_is = sym (union_none _); form_is = sym (union_none _); blocks_are = sym (sum_none _) }

pub overflow_add-blocks : goal.overflow_add-blocks
overflow_add-blocks c = let l = c.loop-w in record { fits = omega (arith, l.invariant.blocks_are, blocks_low c.args.t.now l.w-index) }

pub loop-w-preserved : goal.loop-w-preserved
unfolding form_at blocks_at
loop-w-preserved c = record { any_is = rw union_next (cc); form_is = rw union_next (cc); blocks_are = rw sum_next (cc) }
