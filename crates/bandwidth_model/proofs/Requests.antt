-- What a request that is led to a holder leaves of the window.
use mathlib.Core.Path.{◌≡◌, refl}
use mathlib.Core.Bool.{cond}
use mathlib.Core.List.{List}
use Prim.Native.Nat.{ℕ, ◌+◌, ◌-◌, ◌≤◌, ◌<◌, min}
use native.Mathlib.Omega.{arith}
use lib.Dec.{eqb}
use lib.ListN.{get_or, set}
use Rattle.tables.proofs.Tests.{cases}
use Rattle.bandwidth_model.specs.Rules.{Setup, pairs, weight_of, held, pool_of}
use Rattle.bandwidth_model.specs.Calls.{Grant}
use Rattle.bandwidth_model.specs.Model.{Usage, from_reservation, from_pool, grant_of}
use Rattle.bandwidth_model.proofs.Window.{Spent, spent_more}

from_pool_lem : (su : Setup) (u : Usage) (i rest : ℕ) → from_pool su u i rest ≤ min rest (pool_of su u.active - u.pool)
unfolding from_pool
from_pool_lem su u i rest =
    let most = min rest (pool_of su u.active - u.pool) in
    cases (λ x. cond x 0 most ≤ most) (eqb (weight_of (get_or u.active i 0)) 0) (λ t. omega arith) (λ t. omega arith)

no_pool : (su : Setup) (u : Usage) (i rest : ℕ) → weight_of (get_or u.active i 0) ≡ 0 → from_pool su u i rest ≡ 0
unfolding from_pool
no_pool su u i rest e = rw e refl

module _ (su : Setup) (u : Usage) (asked pooled : List ℕ) (sum : ℕ) (w : Spent su u.active u.used u.pool asked pooled sum) (i bytes : ℕ) (inside : i < pairs su) where
  abbrev g : Grant
  g = grant_of su u (held i) bytes

  pub spent_request : Spent su u.active (set u.used i (get_or u.used i 0 + g.reserved)) (u.pool + g.pool) (set asked i (get_or asked i 0 + bytes))
      (set pooled i (get_or pooled i 0 + g.pool)) (sum + (g.reserved + g.pool))
  unfolding grant_of from_reservation
  spent_request =
      let own = from_reservation su u i bytes in
      let small = from_pool_lem su u i (bytes - own) in
      spent_more su u.active u.used u.pool asked pooled sum w i bytes own (from_pool su u i (bytes - own)) inside refl (omega arith) (no_pool su u i (bytes - own))
      (omega (arith, w.pool_in))
