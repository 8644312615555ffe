use mathlib.Core.Path.{refl}
use Rattle.replay.specs.Replay.{refusal_of, value_of, pooled_of}
use Rattle.replay.proofs.reply_ack.Goals as goal

pub returns-in-Ok : goal.returns-in-Ok
unfolding refusal_of value_of pooled_of
returns-in-Ok c = rw c.in-Ok.is (record { number = refl; value = refl; pooled = refl; kept = refl })
