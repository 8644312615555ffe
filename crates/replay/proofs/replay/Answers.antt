use native.Mathlib.Omega.{arith}
use Rattle.replay.proofs.Replays.{left_start, left_turn, left_done}
use Rattle.replay.proofs.replay.Goals as goal

pub loop-i-init : goal.loop-i-init
loop-i-init c = left_start _ _ _ _

pub put_answer-requires : goal.put_answer-requires
put_answer-requires c = omega (arith, c.turns_of-count.ensures.small)

pub loop-i-preserved : goal.loop-i-preserved
loop-i-preserved c =
    left_turn _ _ _ _ _ _ _ _ _ _ _ _ (omega arith) c.perform_at-replied.ensures c.put_answer.ensures c.loop-i.invariant

pub returns : goal.returns
returns c =
    record {
      trace = left_done _ _ _ _ _ _ _ c.turns_of-count.ensures.is (omega arith) c.loop-i.invariant;
      count = c.turns_of-count.ensures.is;
    }
