-- Bounds of the words of bw_alloc, and what a setting does to a row of them.
use mathlib.Core.Path.{◌≡◌, refl, sym, ap, ◌∙◌}
use mathlib.Core.Bool.{Bool, true, false, not, cond, ◌&&◌}
use mathlib.Core.List.{List, map}
use Prim.Native.Nat.{ℕ, ◌+◌, ◌≤◌, ◌<◌}
use native.Mathlib.Omega.{arith}
use lib.Dec.{T}
use lib.ListN.{length, get_or, set, length-map, get_or-map}
use lib.Seq.{get_or-set_other}
use Rattle.tables.specs.View.{Small}
use Rattle.tables.proofs.Tests.{cases, cond_yes, cond_no}
use Rattle.tables.proofs.Laws.{Filled, filled_none, filled_next, filled_end}
use Rattle.bandwidth_model.specs.Rules.{bw_word, weight_of, stored_form, is_holder, with_weight, settled_row}
use Rattle.bandwidth_model.proofs.Words.{bw_lt, bw_stored, weight_0, with_stored, with_other}

pub small : (x m r : ℕ) → r ≡ x → x ≤ m → Small x m r
small x m r e h = record { is = e; small = omega arith }

pub bw_le : (v : ℕ) → bw_word v ≤ 4294967295
bw_le v = omega (arith, bw_lt v)

pub stored_le : (w : ℕ) → stored_form w ≤ 4294967295
stored_le w = omega (arith, bw_stored w, bw_le (stored_form w))

pub with_le : (weight w : ℕ) → weight < 256 → w ≤ 4294967295 → with_weight weight w ≤ 4294967295
with_le weight w h l =
    cases (λ b. with_weight weight w ≤ 4294967295) (is_holder w) (λ t. omega (arith, with_stored weight w h t, stored_le (with_weight weight w))) (λ t. omega (arith, with_other weight w t))

-- ---- a Mweight carried over a row

-- up to i each word has it, and from i on all are as they were
pub record CarriedBelow (weight : ℕ) (old : List ℕ) (row : List ℕ) (i : ℕ) : Type 0 where
  pub filled : Filled 0 (λ k. with_weight weight (get_or old k 0)) (length old) row i
  pub rest : (k : ℕ) → i ≤ k → get_or row k 0 ≡ get_or old k 0

pub carried_none : {weight : ℕ} {old : List ℕ} → CarriedBelow weight old old 0
carried_none = record { filled = filled_none; rest = λ k l. refl }

module _ {weight : ℕ} {old row : List ℕ} {i : ℕ} where
  pub carried_next : (v : ℕ) → i < length old → v ≡ with_weight weight (get_or row i 0) → CarriedBelow weight old row i → CarriedBelow weight old (set row i v) (i + 1)
  carried_next v l e w =
      let same : v ≡ with_weight weight (get_or old i 0) = e ∙ ap (with_weight weight) (w.rest i (omega arith)) in
      record {
        filled = rw same (filled_next l w.filled);
        rest = λ k h. get_or-set_other row i k v 0 (λ (q : k ≡ i). omega arith) ∙ w.rest k (omega arith);
      }

  pub carried_end : length old ≤ i → CarriedBelow weight old row i → row ≡ map (with_weight weight) old
  carried_end l w =
      filled_end l w.filled (map (with_weight weight) old) (length-map old (with_weight weight))
      (λ k b. ap (get_or (map (with_weight weight) old) k) (sym (weight_0 weight)) ∙ get_or-map (with_weight weight) old k 0)

-- ---- a setting, made or not

module _ (row : List ℕ) (at word : ℕ) where
  pub settle_yes : (made : Bool) → T (made && is_holder word) → map (with_weight (weight_of word)) (cond made (set row at word) row) ≡ cond made (settled_row row at word) row
  unfolding settled_row
  settle_yes true t = sym (cond_yes (is_holder word) _ _ t)
  settle_yes false t = absurd t

  pub settle_no : (made : Bool) → T (not (made && is_holder word)) → cond made (set row at word) row ≡ cond made (settled_row row at word) row
  unfolding settled_row
  settle_no true t = sym (cond_no (is_holder word) _ _ t)
  settle_no false t = refl
