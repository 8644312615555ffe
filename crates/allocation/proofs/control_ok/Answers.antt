use Rattle.allocation.specs.Allocation.{alloc_word, control_ok}
use Rattle.allocation.proofs.control_ok.Goals as goal

pub returns : goal.returns
unfolding control_ok alloc_word
returns c = cc
