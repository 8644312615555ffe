use mathlib.Core.Path.{◌≡◌}
use native.Mathlib.Omega.{arith}
use lib.Dec.{eqb→eq}
use Rattle.bandwidth_wellformed.proofs.Passes.{at_most_none, at_most_next}
use Rattle.bandwidth_lent.proofs.Parts.{word_in}
use Rattle.bandwidth_lent.proofs.sums.zero_words.Goals as goal

pub loop-i-init : goal.loop-i-init
loop-i-init c = at_most_none _ _

pub loop-i-preserved : goal.loop-i-preserved
loop-i-preserved c =
    let i = c.loop-i.i in
    rw (word_in c.args.from c.args.n i _ c.args.b.now c.requires (omega arith) c.load-bits.ensures) (at_most_next _ i _ c.loop-i.invariant)

pub returns : goal.returns
returns c t =
    let none : c.loop-i.bits ≡ 0 = eqb→eq c.loop-i.bits 0 t in
    record { each = λ k b. rw none at (c.loop-i.invariant.each k (omega arith)) }
