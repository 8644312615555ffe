-- Words of an RCID that were loaded into an array, and what a waiter is served by them.
use mathlib.Core.Path.{◌≡◌}
use mathlib.Core.List.{List}
use Prim.Native.Nat.{ℕ}
use Rattle.bandwidth_model.specs.Rules.{Setup}
use Rattle.bandwidth_model.specs.Calls.{Grant}
use Rattle.bandwidth_waiters.specs.Served.{RowOpens, RowServed}

pub opens_loaded : {su : Setup} {size pool need : ℕ} {u u' : List ℕ} → u ≡ u' → RowOpens su u' pool size need → RowOpens su u pool size need
opens_loaded y w = rw y w

pub served_loaded : {su : Setup} {size weights pool at need : ℕ} {a u a' u' : List ℕ} → a ≡ a' → u ≡ u' → {left : List ℕ} {g : Grant} {sum gave : ℕ}
    → RowServed su size weights a u pool at need left g sum gave → RowServed su size weights a' u' pool at need left g sum gave
served_loaded x y w = rw (← x, ← y) w
