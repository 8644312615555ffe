use mathlib.Core.Path.{refl}
use Rattle.replay.specs.Replay.{refusal_of, value_of, pooled_of}
use Rattle.replay.proofs.reply_refused.Goals as goal

pub returns : goal.returns
unfolding refusal_of value_of pooled_of
returns c = record { number = c.from.ensures; value = refl; pooled = refl; kept = refl }
