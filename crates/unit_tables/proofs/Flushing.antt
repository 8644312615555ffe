-- A flush unit by unit: owners and counters when the first i units are flushed.
use mathlib.Core.Path.{◌≡◌, refl, ap, ◌∙◌}
use mathlib.Core.Bool.{cond}
use mathlib.Core.List.{List, [], ◌∷◌, ◌++◌, map, map-append, foldl-append}
use Prim.Native.Nat.{ℕ, suc, ◌+◌, ◌≤◌, ◌<◌}
use native.Mathlib.Numerals.{add-one}
use native.Mathlib.Omega.{arith}
use lib.ListN.{length, get_or, set, take, drop, length-map, drop_of_length-le}
use lib.Seq.{length-take-le, take_all, take-suc, drop-cons, append_snoc, get_or_at, set_at}
use Rattle.tables.proofs.Tests.{cases}
use Rattle.monitor.specs.Occupancy.{evicted}
use Rattle.monitor.proofs.Steps.{put_back}
use Rattle.units.specs.Owners.{of_rcid, flushed_owners}
use Rattle.units.specs.Counts.{emptied, flushed}

unfoldable pub owners_to : ℕ → ℕ → List ℕ → List ℕ
owners_to rcid i owners = flushed_owners rcid (take i owners) ++ drop i owners

unfoldable pub counters_to : List ℕ → ℕ → ℕ → List ℕ → List ℕ → List ℕ
counters_to events rcid i owners counters = flushed 0 events evicted rcid (take i owners) counters

module _ (rcid : ℕ) (owners : List ℕ) where
  pub owners_none : owners_to rcid 0 owners ≡ owners
  unfolding owners_to flushed_owners
  owners_none = refl

  pub owners_all : (i : ℕ) → length owners ≤ i → owners_to rcid i owners ≡ flushed_owners rcid owners
  unfolding owners_to flushed_owners
  owners_all i h = rw (take_all i owners h, drop_of_length-le owners h) (append_none _)
    where
      append_none : (xs : List ℕ) → xs ++ [] ≡ xs
      append_none [] = refl
      append_none (x ∷ xs) = ap (λ (ys : List ℕ). x ∷ ys) (append_none xs)

  module _ (i : ℕ) (h : i < length owners) where
    abbrev front : List ℕ
    front = map (λ owner. cond (of_rcid rcid owner) 0 owner) (take i owners)

    front_long : length front ≡ i
    front_long = length-map (take i owners) _ ∙ length-take-le i owners (omega arith)

    -- the next unit is as it was
    owner_next : get_or (owners_to rcid i owners) i 0 ≡ get_or owners i 0
    unfolding owners_to flushed_owners
    owner_next = rw (drop-cons owners i 0 h) (get_or_at front (get_or owners i 0) (drop (suc i) owners) 0 i front_long)

    pub owners_next : let t = owners_to rcid i owners in cond (of_rcid rcid (get_or t i 0)) (set t i 0) t ≡ owners_to rcid (i + 1) owners
    unfolding owners_to flushed_owners
    owners_next =
        let x = get_or owners i 0 in
        let rest = drop (suc i) owners in
        rw (owner_next, add-one, take-suc owners i 0 h, map-append, append_snoc, drop-cons owners i 0 h)
        (cases (λ b. cond b (set (front ++ x ∷ rest) i 0) (front ++ x ∷ rest) ≡ front ++ cond b 0 x ∷ rest) (of_rcid rcid x) (λ y. set_at front x rest 0 i front_long) (λ n. refl))

    -- the same where the unit's word is put back as it was if another RCID owns it
    pub owner_flushed : let t = owners_to rcid i owners in set t i (cond (of_rcid rcid (get_or t i 0)) 0 (get_or t i 0)) ≡ owners_to rcid (i + 1) owners
    owner_flushed = let t = owners_to rcid i owners in put_back (of_rcid rcid (get_or t i 0)) t i 0 ∙ owners_next

    pub counters_next : (events counters : List ℕ) → let owner = get_or (owners_to rcid i owners) i 0 in let k = counters_to events rcid i owners counters in
        cond (of_rcid rcid owner) (emptied 0 events evicted k owner) k ≡ counters_to events rcid (i + 1) owners counters
    unfolding counters_to flushed
    counters_next events counters = rw (owner_next, add-one, take-suc owners i 0 h, foldl-append)

module _ (events : List ℕ) (rcid : ℕ) (owners counters : List ℕ) where
  pub counters_none : counters_to events rcid 0 owners counters ≡ counters
  unfolding counters_to flushed
  counters_none = refl

  pub counters_all : (i : ℕ) → length owners ≤ i → counters_to events rcid i owners counters ≡ flushed 0 events evicted rcid owners counters
  unfolding counters_to
  counters_all i h = rw (take_all i owners h)
