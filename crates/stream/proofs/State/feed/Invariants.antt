use mathlib.Core.List.{[]}
use Prim.Native.Nat.{◌-◌}
use lib.ListN.{length, take}
use Rattle.session.specs.View.{controller_of}
use Rattle.stream.specs.Stream.{stream}
use Rattle.stream.proofs.Laws.{Going}
use Rattle.stream.proofs.State.feed.Given as goal

abbrev pub invariant-loop-i : goal.invariant-loop-i
invariant-loop-i l =
    Going (stream (controller_of l.initial.self.«record» l.initial.active l.initial.configured l.initial.used l.initial.counters l.initial.events l.initial.waiters) (take l.initial.n l.initial.self.line) []) l.chunk l.initial.out l.initial.active l.initial.configured l.initial.used l.initial.counters l.initial.events l.initial.waiters l.self.«record» l.active l.configured l.used l.counters l.events l.waiters l.self.line l.n l.end l.from l.i l.out

abbrev pub decreases-loop-i : goal.decreases-loop-i
decreases-loop-i l = length l.chunk - l.i
