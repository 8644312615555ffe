-- Steps of the proofs: each from what its own steps give, so that a step that gives another number is refused as that.
use mathlib.Core.Path.{◌≡◌, refl, ap, ◌∙◌}
use mathlib.Core.Bool.{cond}
use mathlib.Core.List.{List}
use Prim.Native.Nat.{ℕ, ◌+◌, ◌-◌, ◌*◌, ◌/◌, ◌^◌, ◌<◌, min}
use native.Mathlib.Nat.{min-le_left, min-le_right, mul-le-mul}
use native.Mathlib.Omega.{arith}
use lib.Dec.{eqb}
use Rattle.tables.specs.View.{Small}
use Rattle.bandwidth_model.specs.Rules.{Setup, weight_of, reserved, Holder, nobody, held}
use Rattle.bandwidth_model.specs.Calls.{Grant, grant_sum}
use Rattle.bandwidth_model.specs.Waiters.{held_word, own_part, share_weight, pool_part, served_of}
use Rattle.bandwidth_model.specs.Model.{spend}
use Rattle.bandwidth_model.proofs.Words.{weight_lt, reserved_le}
use Rattle.bandwidth_grants.specs.View.{usage}
use Rattle.bandwidth_grants.specs.Grants.{holder_in, Fits}
use Rattle.bandwidth_grants.proofs.Steps.{pick_le}
use Rattle.bandwidth_waiters.specs.Served.{Served, RowOpens, RowServed}

-- of a reservation of which nothing is used
own_steps : (su : Setup) (word need own : ℕ) → own ≡ min need (reserved word * su.q - 0) → own ≡ own_part su word need
unfolding own_part
own_steps su word need own e = e ∙ ap (min need) (omega arith)

pub weight_steps : (su : Setup) (word need own weight r : ℕ) → Small (min need (reserved word * su.q - 0)) need own → weight ≡ weight_of word
    → r ≡ cond (eqb (need - own) 0) 0 weight → Small (share_weight su word need) 255 r
unfolding share_weight
weight_steps su word need own weight r e f g =
    record { is = g ∙ rw (own_steps su word need own e.is, f) refl; small = omega (arith, pick_le (eqb (need - own) 0) 0 weight, weight_lt word) }

pub served_steps : (su : Setup) (size weights word need own weight part pool : ℕ) → Small (min need (reserved word * su.q - 0)) need own
    → Small (share_weight su word need) 255 weight → part ≡ size * weight / weights → pool ≡ min (need - own) part
    → Served su size weights word need (record { reserved = own; pool = pool })
unfolding served_of pool_part
served_steps su size weights word need own weight part pool e f g h = record {
  is = rw (h, g, f.is, own_steps su word need own e.is) refl;
  sum = omega (arith, e.small, min-le_left (need - own) part);
}

-- what is served fits a row of which nothing is used
module _ {su : Setup} {size weights : ℕ} {used : List ℕ} {pool need word : ℕ} {g : Grant} (i : Served su size weights word need g) (o : RowOpens su used pool size need) where
  own_low : g.reserved < 2 ^ 32
  unfolding served_of own_part
  own_low = rw i.is (omega (arith, min-le_right need (reserved word * su.q), mul-le-mul (reserved_le word) o.ranges.q_high))

  pub serve_fits : (h : Holder) → Fits used pool h g
  unfolding Fits
  serve_fits nobody = tt
  serve_fits (held j) = (omega (arith, o.unused j, own_low), omega (arith, o.pool_low, o.need_low, i.sum))

-- a waiter, from its holder and both amounts
pub serve_steps : {su : Setup} {size weights : ℕ} (row used : List ℕ) (pool at : ℕ) {need word : ℕ} {h : Holder} {g : Grant} {left : List ℕ} {gave : ℕ}
    → h ≡ holder_in row at → word ≡ held_word row h → Served su size weights word need g → usage row left gave ≡ spend (usage row used pool) h g
    → RowServed su size weights row used pool at need left g (g.reserved + g.pool) gave
unfolding grant_sum
serve_steps row used pool at e f i p = record { grant_is = rw (← e, ← f) i.is; sum_is = refl; spent = rw (← e) p; small = i.sum }
