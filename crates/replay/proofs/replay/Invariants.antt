use Rattle.bandwidth.specs.View.{state}
use Rattle.replay.specs.Replay.{trace_of}
use Rattle.replay.proofs.Replays.{Left}
use Rattle.replay.proofs.replay.Given as goal

abbrev pub invariant-loop-i : goal.invariant-loop-i
invariant-loop-i l =
    Left (trace_of l.calls l.lists) l.count (state l.initial.«record» l.initial.active l.initial.configured l.initial.used l.initial.counters l.initial.events l.initial.waiters) l.initial.answers l.i (state l.«record» l.active l.configured l.used l.counters l.events l.waiters) l.answers
