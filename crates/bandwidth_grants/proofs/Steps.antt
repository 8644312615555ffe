-- Steps of the proofs: each from what its own steps give, so that a step that gives another number is refused as that.
use mathlib.Core.Path.{◌≡◌, refl}
use mathlib.Core.Bool.{Bool, true, false, cond}
use mathlib.Core.List.{List}
use Prim.Native.Nat.{ℕ, ◌+◌, ◌-◌, ◌*◌, ◌≤◌, min}
use native.Mathlib.Nat.{min-le_left}
use native.Mathlib.Omega.{arith}
use lib.Dec.{eqb}
use lib.ListN.{get_or, set}
use Rattle.tables.specs.View.{Small}
use Rattle.bandwidth_model.specs.Rules.{Setup, weight_of, shared_at_of, is_holder, is_sharer, reserved, Holder, nobody, held}
use Rattle.bandwidth_model.specs.Calls.{Grant, grant_sum}
use Rattle.bandwidth_model.specs.Model.{from_reservation, spend}
use Rattle.bandwidth_grants.specs.View.{usage}
use Rattle.bandwidth_grants.specs.Grants.{holder_in, pool_in, grant_in, Granted, Fits, RowFits, RowGiven}

-- a choice is at most both together
pub pick_le : (b : Bool) (x y : ℕ) → cond b x y ≤ x + y
pick_le true x y = omega arith
pick_le false x y = omega arith

-- the holder, from the word that was read
pub led : (row : List ℕ) (at : ℕ) {word shared : ℕ} {h s : Bool} → word ≡ get_or row at 0 → h ≡ is_holder word → s ≡ is_sharer word
    → shared ≡ shared_at_of word → cond h (held at) (cond s (held shared) nobody) ≡ holder_in row at
unfolding holder_in
led row at w h s o = cc

-- what a holder has left of its reservation
pub left_steps : (bytes q used word blocks left r : ℕ) → blocks ≡ reserved word → left ≡ blocks * q - used → r ≡ min bytes left
    → Small (min bytes (reserved word * q - used)) bytes r
left_steps bytes q used word blocks left r e f g = record { is = cc; small = omega (arith, min-le_left bytes left) }

-- what the pool has left for a holder
pub pool_steps : (all taken q pool rest word blocks weight left most r : ℕ) → blocks ≡ all - taken → weight ≡ weight_of word → left ≡ blocks * q - pool
    → most ≡ min rest left → r ≡ cond (eqb weight 0) 0 most → Small (cond (eqb (weight_of word) 0) 0 (min rest ((all - taken) * q - pool))) rest r
pool_steps all taken q pool rest word blocks weight left most r e f g h k =
    record { is = cc; small = omega (arith, min-le_left rest left, pick_le (eqb weight 0) 0 most) }

-- what a holder is granted, from both
pub held_steps : {su : Setup} {taken : ℕ} {row used : List ℕ} {pool i : ℕ} (bytes word old own rest : ℕ) → word ≡ get_or row i 0 → old ≡ get_or used i 0
    → Small (min bytes (reserved word * su.q - old)) bytes own
    → Small (cond (eqb (weight_of word) 0) 0 (min (bytes - own) ((su.nbwblks - taken) * su.q - pool))) (bytes - own) rest
    → Granted su taken row used pool (held i) bytes (record { reserved = own; pool = rest })
unfolding grant_in pool_in from_reservation
held_steps bytes word old own rest e f g h = record { is = cc (g.is, h.is); sum = omega (arith, g.small, h.small) }

-- a grant spent
pub spend_steps : (row used left : List ℕ) (pool i old : ℕ) (g : Grant) → old ≡ get_or used i 0 → left ≡ set used i (old + g.reserved)
    → usage row left (pool + g.pool) ≡ spend (usage row used pool) (held i) g
unfolding spend
spend_steps row used left pool i old g e f = cc

-- a request, from its holder and its grant
module _ {su : Setup} {reserved : ℕ} {row used : List ℕ} {pool at bytes : ℕ} {h : Holder} {g : Grant} (e : h ≡ holder_in row at)
    (i : Granted su reserved row used pool h bytes g) where
  pub give_fits : RowFits su reserved row used pool at bytes → Fits used pool h g
  give_fits f = rw (i.is, e) f.fits

  pub give_steps : {left : List ℕ} {gave : ℕ} → usage row left gave ≡ spend (usage row used pool) h g
      → RowGiven su reserved row used pool at bytes left g (g.reserved + g.pool) gave
  unfolding grant_sum
  give_steps p = record { grant_is = rw (← e) i.is; sum_is = refl; spent = rw (← e, ← i.is) p; small = i.sum }
