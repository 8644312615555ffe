use mathlib.Core.Path.{◌≡◌, refl}
use Rattle.std.specs.Prelude.{Result, Ok, Err}
use Prim.Native.Nat.{ℕ}
use Rattle.access.specs.Checks.{first}
use Rattle.access.specs.View.{refusal_in}
use Rattle.access.specs.declared.Refusal.{Refusal}
use Rattle.capacity_model.specs.Calls.{evict}
use Rattle.capacity_model.specs.Model.{State, unit_checks, argument_checks, perform, step}
use Rattle.capacity.specs.View.{state, outcome, ack_of}
use Rattle.capacity.specs.Checked.{Passed, evict_left}
use Rattle.capacity.proofs.Calls.{call_refused, call_done}
use Rattle.capacity.proofs.Record.evicting.Goals as goal

-- the check of the unit decides
decided : (s : State) (unit : ℕ) → Passed s → {X : Type 0} (r : Result X Refusal) → refusal_in r ≡ first (unit_checks s.setup unit) 0
    → outcome (ack_of r) (evict_left s unit r) ≡ step s (evict unit)
unfolding argument_checks perform
decided s unit p (Ok x) e = call_done s (evict _) tt p e _ refl
decided s unit p (Err why) e = call_refused s (evict _) tt p why e

pub returns : goal.returns
returns c = λ ms ns es os p. decided (state c.args.self.now ms ns es os) _ p _ c.check_unit.ensures
