use Rattle.replay.proofs.Laws.{reply_at}
use Rattle.replay.proofs.perform_at.Goals as goal

pub returns : goal.returns
returns c =
    reply_at _ _ _ _ _ _ _ _ _ _ c.perform_one.ensures c.word.ensures c.word-2.ensures c.word-3.ensures
    c.word-4.ensures c.word-5.ensures c.word-6.ensures
