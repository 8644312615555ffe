use Rattle.bandwidth_wellformed.specs.Bits.{Scanned}
use Rattle.bandwidth_wellformed.proofs.settings.scan_words.Given as goal

abbrev pub invariant-loop-w : goal.invariant-loop-w
invariant-loop-w l = Scanned l.t l.w-index l.any l.form l.blocks
