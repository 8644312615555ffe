use mathlib.Core.Path.{◌≡◌}
use mathlib.Core.List.{[]}
use Prim.Native.Nat.{◌-◌}
use lib.ListN.{length, take, drop}
use Rattle.parse.specs.Numbers.{numbers_from}
use Rattle.parse.proofs.all_numbers.Given as goal

abbrev pub invariant-loop-i : goal.invariant-loop-i
invariant-loop-i g l =
    (length l.numbers ≡ g.row.N) × (numbers_from l.decimals g.row.N [] (drop 1 l.line) ≡ numbers_from l.decimals (g.row.N - l.i) (take l.i l.numbers) (drop l.at l.line))
