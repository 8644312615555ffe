use Rattle.bandwidth_waiters.proofs.share_weight.Goals as goal

pub returns : goal.returns
returns c = rw (← c.holder_of-holder.ensures, ← c.held_word.ensures) c.weight_by.ensures
