-- Laws of a walk over the waiters: one step of it, and what it keeps.
use mathlib.Core.Path.{◌≡◌, refl, ◌∙◌}
use mathlib.Core.Bool.{cond}
use mathlib.Core.List.{List}
use Prim.Native.Nat.{ℕ, zero, suc}
use lib.Dec.{eqb, eqb→eq}
use lib.ListN.{get_or}
use Rattle.tables.proofs.Tests.{cases, cond_yes, cond_no, eqb_in, neqb, neqb_in}
use Rattle.monitor.specs.Monitor.{Monitor, counted}
use Rattle.bandwidth_model.specs.Rules.{Setup}
use Rattle.bandwidth_model.specs.Waiters.{over_waiters}
use Rattle.bandwidth_model.specs.Model.{monitor_served}

module _ {X : Type 0} (f : X → ℕ → X) (waiters : List ℕ) (x : X) (n : ℕ) where
  -- where none waits, nothing is done
  pub over_none : get_or waiters n 0 ≡ 0 → over_waiters f waiters x (suc n) ≡ over_waiters f waiters x n
  unfolding over_waiters
  over_none e = cond_yes (eqb (get_or waiters n 0) 0) _ _ (eqb_in (get_or waiters n 0) 0 e)

  pub over_one : (get_or waiters n 0 ≡ 0 → ⊥) → over_waiters f waiters x (suc n) ≡ f (over_waiters f waiters x n) n
  unfolding over_waiters
  over_one e = cond_no (eqb (get_or waiters n 0) 0) _ _ (neqb_in (get_or waiters n 0) 0 e)

-- what each step keeps holds at the end
pub over_keeps : {X : Type 0} (f : X → ℕ → X) (waiters : List ℕ) (x : X) (P : ℕ → X → Type 0) → P 0 x
    → ((n : ℕ) (y : X) → get_or waiters n 0 ≡ 0 → P n y → P (suc n) y) → ((n : ℕ) (y : X) → (get_or waiters n 0 ≡ 0 → ⊥) → P n y → P (suc n) (f y n))
    → (n : ℕ) → P n (over_waiters f waiters x n)
unfolding over_waiters
over_keeps f waiters x P p none one zero = p
over_keeps f waiters x P p none one (suc n) =
    let y = over_waiters f waiters x n in
    let q = over_keeps f waiters x P p none one n in
    cases (λ b. P (suc n) (cond b y (f y n))) (eqb (get_or waiters n 0) 0) (λ t. none n y (eqb→eq (get_or waiters n 0) 0 t) q) (λ t. one n y (neqb (get_or waiters n 0) 0 t) q)

-- so of two walks over the same waiters
pub over_both : {X Y : Type 0} (f : X → ℕ → X) (g : Y → ℕ → Y) (waiters : List ℕ) (x : X) (y : Y) (R : ℕ → X → Y → Type 0) → R 0 x y
    → ((n : ℕ) (a : X) (b : Y) → get_or waiters n 0 ≡ 0 → R n a b → R (suc n) a b)
    → ((n : ℕ) (a : X) (b : Y) → (get_or waiters n 0 ≡ 0 → ⊥) → R n a b → R (suc n) (f a n) (g b n))
    → (n : ℕ) → R n (over_waiters f waiters x n) (over_waiters g waiters y n)
unfolding over_waiters
over_both f g waiters x y R r none one zero = r
over_both f g waiters x y R r none one (suc n) =
    let a = over_waiters f waiters x n in
    let b = over_waiters g waiters y n in
    let q = over_both f g waiters x y R r none one n in
    cases (λ k. R (suc n) (cond k a (f a n)) (cond k b (g b n))) (eqb (get_or waiters n 0) 0) (λ t. none n a b (eqb→eq (get_or waiters n 0) 0 t) q)
    (λ t. one n a b (neqb (get_or waiters n 0) 0 t) q)

-- what each step leaves alone is left alone
pub over_same : {X Y : Type 0} (part : X → Y) (f : X → ℕ → X) (waiters : List ℕ) (x : X) → ((y : X) (n : ℕ) → part (f y n) ≡ part y) → (n : ℕ)
    → part (over_waiters f waiters x n) ≡ part x
over_same part f waiters x e n = over_keeps f waiters x (λ m y. part y ≡ part x) refl (λ m y z q. q) (λ m y z q. e y m ∙ q) n

-- counting leaves mon_ctl, mon_ctr_val and the counter settings alone
module _ (su : Setup) (table waiters : List ℕ) (m : Monitor) (n : ℕ) where
  pub served_ctl : (monitor_served su table waiters m n).ctl ≡ m.ctl
  unfolding monitor_served counted
  served_ctl = over_same (λ (k : Monitor). k.ctl) _ waiters m (λ y i. refl) n

  pub served_value : (monitor_served su table waiters m n).value ≡ m.value
  unfolding monitor_served counted
  served_value = over_same (λ (k : Monitor). k.value) _ waiters m (λ y i. refl) n

  pub served_events : (monitor_served su table waiters m n).events ≡ m.events
  unfolding monitor_served counted
  served_events = over_same (λ (k : Monitor). k.events) _ waiters m (λ y i. refl) n
