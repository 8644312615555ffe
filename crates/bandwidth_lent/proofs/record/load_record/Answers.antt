use mathlib.Core.Path.{refl}
use Rattle.words.specs.Words.{words_of}
use Rattle.bandwidth_lent.proofs.record.load_record.Goals as goal

pub returns : goal.returns
unfolding words_of
returns c = rw c.decode.ensures refl
