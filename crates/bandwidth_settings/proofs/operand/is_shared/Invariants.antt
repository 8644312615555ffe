use mathlib.Core.Path.{◌≡◌}
use Rattle.tables.specs.Below.{any_below}
use Rattle.bandwidth_settings.specs.Rows.{shares_in}
use Rattle.bandwidth_settings.proofs.operand.is_shared.Given as goal

abbrev pub invariant-loop-b : goal.invariant-loop-b
invariant-loop-b l = l.found ≡ any_below l.b (shares_in l.row l.at)
