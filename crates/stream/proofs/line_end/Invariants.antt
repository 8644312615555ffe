use mathlib.Core.Path.{◌≡◌}
use Prim.Native.Nat.{◌+◌}
use lib.ListN.{drop}
use Rattle.stream.specs.Stream.{line_span}
use Rattle.stream.proofs.line_end.Given as goal

abbrev pub invariant-loop-i : goal.invariant-loop-i
invariant-loop-i l = l.from + line_span (drop l.from l.chunk) ≡ l.i + line_span (drop l.i l.chunk)
