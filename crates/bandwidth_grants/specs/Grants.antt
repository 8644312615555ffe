-- A request on the words of its RCID, one for each AT: its holder, what it is granted, and what is used then.
use Rattle.std.specs.Prelude.{◌≡◌, List, ℕ, ◌+◌, ◌-◌, ◌*◌, ◌^◌, ◌≤◌, ◌<◌, min, if◌then◌else◌, ◌==◌}
use Rattle.tables.specs.Notation.{◌‼◌}
use Rattle.bandwidth_model.specs.Rules.{Setup, weight_of, shared_at_of, is_holder, is_sharer, Holder, nobody, held}
use Rattle.bandwidth_model.specs.View.{Ranges}
use Rattle.bandwidth_model.specs.Calls.{Grant, nothing, grant_sum}
use Rattle.bandwidth_model.specs.Model.{from_reservation, spend}
use Rattle.bandwidth_grants.specs.View.{usage}

-- the AT of an AT's holder: its own, or the AT that it shares
unfoldable pub holder_in : List ℕ → ℕ → Holder
holder_in row at =
    let word = row ‼ at in
    if is_holder word then held at else (if is_sharer word then held (shared_at_of word) else nobody)

-- the rest comes from the pool if the holder's own Mweight is not 0; all holders in force reserve so many blocks
unfoldable pub pool_in : Setup → ℕ → List ℕ → ℕ → ℕ → ℕ → ℕ
pool_in su reserved row pool at rest =
    if weight_of (row ‼ at) == 0 then 0 else min rest ((su.nbwblks - reserved) * su.q - pool)

-- what a holder is granted
unfoldable pub grant_in : Setup → ℕ → List ℕ → List ℕ → ℕ → Holder → ℕ → Grant
grant_in su reserved row used pool nobody bytes = nothing
grant_in su reserved row used pool (held at) bytes =
    let own = from_reservation su (usage row used pool) at bytes in
    record { reserved = own; pool = pool_in su reserved row pool at (bytes - own) }

-- g is what the holder is granted, and at most the bytes asked for
pub record Granted (su : Setup) (reserved : ℕ) (row used : List ℕ) (pool : ℕ) (h : Holder) (bytes : ℕ) (g : Grant) : Type 0 where
  pub is : g ≡ grant_in su reserved row used pool h bytes
  pub sum : g.reserved + g.pool ≤ bytes

-- a grant fits the holder's used word of 32 bits and the pool's of 64
unfoldable pub Fits : List ℕ → ℕ → Holder → Grant → Type 0
Fits used pool nobody g = Unit
Fits used pool (held i) g = (used ‼ i + g.reserved < 2 ^ 32) × (pool + g.pool < 2 ^ 64)

-- the set-up is in range, and what the request of an AT is granted fits
pub record RowFits (su : Setup) (reserved : ℕ) (row used : List ℕ) (pool at bytes : ℕ) : Type 0 where
  pub ranges : Ranges su
  pub fits : Fits used pool (holder_in row at) (grant_in su reserved row used pool (holder_in row at) bytes)

-- the bytes granted and their sum, with what is used of the row and what the pool gave then
pub record RowGiven (su : Setup) (reserved : ℕ) (row used : List ℕ) (pool at bytes : ℕ) (left : List ℕ) (g : Grant) (sum gave : ℕ) : Type 0 where
  pub grant_is : g ≡ grant_in su reserved row used pool (holder_in row at) bytes
  pub sum_is : sum ≡ grant_sum g
  pub spent : usage row left gave ≡ spend (usage row used pool) (holder_in row at) (grant_in su reserved row used pool (holder_in row at) bytes)
  pub small : sum ≤ bytes
