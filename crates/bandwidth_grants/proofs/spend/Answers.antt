use mathlib.Core.Path.{◌≡◌, ◌∙◌}
use mathlib.Core.List.{List}
use Prim.Native.Nat.{ℕ}
use native.Mathlib.Omega.{arith}
use Rattle.bandwidth_model.specs.Rules.{held}
use Rattle.bandwidth_model.specs.Model.{spend}
use Rattle.std.specs.Prelude.{Option, Some}
use Rattle.bandwidth_grants.specs.Grants.{Fits}
use Rattle.bandwidth_grants.specs.View.{holder_from}
use Rattle.bandwidth_model.specs.Calls.{Grant}
use Rattle.bandwidth_grants.proofs.Steps.{spend_steps}
use Rattle.bandwidth_grants.proofs.spend.Goals as goal

-- the bytes fit the words of the holder that was matched
fits_held : (used : List ℕ) (pool i : ℕ) (h : Option ℕ) (g : Grant) → h ≡ Some i → Fits used pool (holder_from h) g → Fits used pool (held i) g
fits_held used pool i h g e f = rw e at f

pub overflow_add-old : goal.overflow_add-old
unfolding Fits
overflow_add-old c = record { fits = omega (arith, (fits_held _ _ _ _ _ c.in-Some.is c.requires).0) }

pub overflow_cast-old : goal.overflow_cast-old
unfolding Fits
overflow_cast-old c = record { fits = omega (arith, (fits_held _ _ _ _ _ c.in-Some.is c.requires).0) }

pub overflow_add-result : goal.overflow_add-result
unfolding Fits
overflow_add-result c = record { fits = omega (arith, (fits_held _ _ _ _ _ c.in-Some.is c.requires).1) }

pub returns-in-None : goal.returns-in-None
unfolding spend
returns-in-None c row = rw c.in-None.is

pub returns-in-Some : goal.returns-in-Some
returns-in-Some c row = rw c.in-Some.is (spend_steps _ _ _ _ _ _ _ (c.from-old.ensures ∙ c.word.ensures) c.put.ensures)
