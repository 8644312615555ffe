-- The count of an MCID whose setting counts every AT follows the units that it owns.
use mathlib.Core.Path.{◌≡◌, sym, ap, subst, ◌∙◌}
use mathlib.Core.Bool.{Bool, cond, ◌&&◌}
use mathlib.Core.List.{List, [], ◌∷◌}
use Prim.Native.Nat.{ℕ, ◌+◌, ◌<◌}
use native.Mathlib.Nat.{zero-add}
use native.Mathlib.Omega.{arith}
use lib.Dec.{T, eqb, eqb→eq}
use lib.ListN.{length, get_or, set, length-set}
use lib.Seq.{get_or-set_same, get_or-set_other}
use Rattle.fields.specs.Layout.{get}
use Rattle.fields.specs.Registers as reg
use Rattle.monitor.specs.Occupancy.{counts_unit}
use Rattle.tables.specs.Below.{count_of}
use Rattle.tables.proofs.Tests.{cases, neqb, cond_yes}
use Rattle.tables.proofs.Laws.{count_cons, count_set, count_le}
use Rattle.units.specs.Owners.{owner_word, is_owned, of_mcid, of_rcid, units_of, flushed_owners}
use Rattle.units.specs.Counts.{noted, emptied, refilled, flushed}
use Rattle.units.proofs.Owners.{free_mcid, word_of}

-- P n c: the count c is of n units
module _ {C : Type 0} (none : C) (settings : List ℕ) (P : ℕ → C → Type 0) (mcid : ℕ) (all : (at : ℕ) → T (counts_unit (get_or settings mcid 0) at)) where
  -- the MCID has a count, which is of n units
  pub record Has (n : ℕ) (counts : List C) : Type 0 where
    pub known : mcid < length counts
    pub count : P n (get_or counts mcid none)

  own : (n k : ℕ) (change : C → C) (counts : List C) (at : ℕ) → ((c : C) → P n c → P k (change c)) → Has n counts → Has k (noted none settings change counts mcid at)
  unfolding noted
  own n k change counts at f h =
      rw (cond_yes (counts_unit (get_or settings mcid 0) at) (set counts mcid (change (get_or counts mcid none))) counts (all at))
      (record {
        known = rw (length-set counts mcid (change (get_or counts mcid none))) h.known;
        count = rw (get_or-set_same counts mcid (change (get_or counts mcid none)) none h.known) (f (get_or counts mcid none) h.count);
      })

  other : (n : ℕ) (change : C → C) (counts : List C) (m at : ℕ) → (mcid ≡ m → ⊥) → Has n counts → Has n (noted none settings change counts m at)
  unfolding noted
  other n change counts m at d h =
      cases (λ b. Has n (cond b (set counts m (change (get_or counts m none))) counts)) (counts_unit (get_or settings m 0) at)
      (λ y. record {
        known = rw (length-set counts m (change (get_or counts m none))) h.known;
        count = rw (get_or-set_other counts m mcid (change (get_or counts m none)) none d) h.count;
      })
      (λ y. h)

  module _ (down : C → C) (less : (n : ℕ) (c : C) → P (n + 1) c → P n (down c)) where
    pub emptied_has : (n : ℕ) (counts : List C) (owner : ℕ) → Has (n + cond (of_mcid mcid owner) 1 0) counts → Has n (emptied none settings down counts owner)
    unfolding emptied of_mcid
    emptied_has n counts owner =
        let m = get reg.owner_mcid owner in
        cases (λ b. Has (n + cond (b && eqb m mcid) 1 0) counts → Has n (cond b (noted none settings down counts m (get reg.owner_at owner)) counts)) (is_owned owner)
        (λ y. cases (λ b. Has (n + cond b 1 0) counts → Has n (noted none settings down counts m (get reg.owner_at owner))) (eqb m mcid)
        (λ e h. subst (λ (x : ℕ). Has n (noted none settings down counts x (get reg.owner_at owner))) (sym (eqb→eq m mcid e)) (own (n + 1) n down counts (get reg.owner_at owner) (less n) h))
        (λ e h. other n down counts m (get reg.owner_at owner) (λ q. neqb m mcid e (sym q)) (none_more n h)))
        (λ y h. none_more n h)
      where
        none_more : (n : ℕ) → Has (n + 0) counts → Has n counts
        none_more n h = let e : n + 0 ≡ n = omega arith in subst (λ (x : ℕ). Has x counts) e h

    pub flushed_has : (rcid n : ℕ) (owners : List ℕ) (counts : List C) → Has (n + units_of mcid owners) counts
        → Has (n + units_of mcid (flushed_owners rcid owners)) (flushed none settings down rcid owners counts)
    unfolding flushed flushed_owners units_of
    flushed_has rcid n [] counts h = h
    flushed_has rcid n (o ∷ os) counts h =
        let b : ℕ = cond (of_mcid mcid o) 1 0 in
        let rest : ℕ = units_of mcid os in
        let there = count_cons (of_mcid mcid) o os in
        cases (λ y. Has (n + count_of (of_mcid mcid) (cond y 0 o ∷ flushed_owners rcid os)) (flushed none settings down rcid os (cond y (emptied none settings down counts o) counts)))
        (of_rcid rcid o)
        (λ y. let e : n + (b + rest) ≡ n + rest + b = omega arith in
        rw (count_cons (of_mcid mcid) 0 (flushed_owners rcid os), free_mcid mcid, zero-add)
        (flushed_has rcid n os (emptied none settings down counts o) (emptied_has (n + rest) counts o (rw (there, e) at h))))
        (λ y. let e : n + (b + rest) ≡ n + b + rest = omega arith in
        let q : n + b + units_of mcid (flushed_owners rcid os) ≡ n + (b + units_of mcid (flushed_owners rcid os)) = omega arith in
        rw (count_cons (of_mcid mcid) o (flushed_owners rcid os), ← q)
        (flushed_has rcid (n + b) os counts (rw (there, e) at h)))

    module _ (owners : List ℕ) (unit : ℕ) (inside : unit < length owners) where
      -- an eviction leaves the other units of the MCID
      freed : units_of mcid (set owners unit 0) + cond (of_mcid mcid (get_or owners unit 0)) 1 0 ≡ units_of mcid owners
      unfolding units_of
      freed = count_set (of_mcid mcid) owners unit 0 inside ∙ rw (free_mcid mcid) (zero-add _)

      pub evicted_has : (counts : List C) → Has (units_of mcid owners) counts → Has (units_of mcid (set owners unit 0)) (emptied none settings down counts (get_or owners unit 0))
      evicted_has counts h = emptied_has (units_of mcid (set owners unit 0)) counts (get_or owners unit 0) (rw freed h)

      module _ (up : C → C) (limit : ℕ) (few : length owners < limit) (more : (n : ℕ) (c : C) → n < limit → P n c → P (n + 1) (up c)) where
        -- a fill adds its own unit
        pub filled_has : (counts : List C) (rcid m at : ℕ) → rcid < 256 → m < 256 → at < 8 → Has (units_of mcid owners) counts
            → Has (units_of mcid (set owners unit (owner_word rcid m at))) (refilled none settings up down counts (get_or owners unit 0) m at)
        unfolding refilled units_of
        filled_has counts rcid m at hr hm ha h =
            let k = emptied none settings down counts (get_or owners unit 0) in
            let n = count_of (of_mcid mcid) (set owners unit 0) in
            let low : n < limit = omega (arith, count_le (of_mcid mcid) (set owners unit 0), length-set owners unit 0) in
            let e : count_of (of_mcid mcid) (set owners unit (owner_word rcid m at)) ≡ n + cond (eqb m mcid) 1 0 =
            omega (arith, freed, count_set (of_mcid mcid) owners unit (owner_word rcid m at) inside, ap (λ (b : Bool). cond {A = ℕ} b 1 0) (word_of rcid m at hr hm ha mcid)) in
            rw e
            (cases (λ b. Has (n + cond b 1 0) (noted none settings up k m at)) (eqb m mcid)
            (λ y. subst (λ (x : ℕ). Has (n + 1) (noted none settings up k x at)) (sym (eqb→eq m mcid y)) (own n (n + 1) up k at (λ c. more n c low) (evicted_has counts h)))
            (λ y. let z : n ≡ n + 0 = omega arith in rw (← z) (other n up k m at (λ q. neqb m mcid y (sym q)) (evicted_has counts h))))
