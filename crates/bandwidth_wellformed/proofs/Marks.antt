-- What the union of the marks of one row says of its sharers, both ways.
use mathlib.Core.Path.{◌≡◌, sym, ap, ◌∙◌}
use mathlib.Core.Bool.{not, cond}
use mathlib.Core.Logic.{⊎_elim}
use Prim.Native.Nat.{ℕ, suc, ◌+◌, ◌*◌, ◌/◌, ◌%◌, ◌^◌, ◌≤◌, ◌<◌}
use native.Mathlib.Nat.{le_trans, le_of_eq}
use native.Mathlib.Omega.{arith}
use lib.Dec.{eqb}
use lib.Pow.{pow-add, pow_pos}
use Rattle.tables.proofs.Tests.{cases, cond_yes, neqb, neqb_in}
use Rattle.bandwidth_model.specs.Rules.{rbwb_of, shared_at_of, use_shared_of}
use Rattle.tables.specs.View.{union_below}
use Rattle.bandwidth_wellformed.specs.Bits.{mark, lacking}
use Rattle.bandwidth_wellformed.proofs.Bits.{Has, has_left, has_right, has_or, has_not, has_own, has_pow, union_has, has_union, held, lacks_none}
use Rattle.bandwidth_wellformed.proofs.Forms.{low_blocks}

-- ---- the mark of one word

some : ℕ → ℕ → ℕ
some a w = cond (not (eqb (w % 65536) 0)) (16777216 * 2 ^ a) 0

has_some : (k a w : ℕ) → Has k (some a w) → (k ≡ 24 + a) × (rbwb_of w ≡ 0 → ⊥)
unfolding some
has_some k a w =
    cases (λ b. Has k (cond b (16777216 * 2 ^ a) 0) → (k ≡ 24 + a) × (rbwb_of w ≡ 0 → ⊥)) (not (eqb (w % 65536) 0))
    (λ t h. (has_pow k (24 + a) (ap (λ (x : ℕ). x / 2 ^ k % 2) (pow-add 2 24 a) ∙ h), λ e. neqb (w % 65536) 0 t (low_blocks w ∙ e)))
    (λ t h. absurd (has_not k 0 (pow_pos k) h))

mark_some : (a w : ℕ) → (rbwb_of w ≡ 0 → ⊥) → Has (24 + a) (mark a w)
unfolding mark
mark_some a w n =
    let t = neqb_in (w % 65536) 0 (λ e. n (sym (low_blocks w) ∙ e)) in
    let e = cond_yes (not (eqb (w % 65536) 0)) (16777216 * 2 ^ a) 0 t ∙ sym (pow-add 2 24 a) in
    has_left (24 + a) (cond (not (eqb (w % 65536) 0)) (16777216 * 2 ^ a) 0) (2 ^ (w / 2 ^ 28)) (ap (λ (x : ℕ). x / 2 ^ (24 + a) % 2) e ∙ has_own (24 + a))

mark_shares : (a w : ℕ) → Has (w / 2 ^ 28) (mark a w)
unfolding mark
mark_shares a w = has_right (w / 2 ^ 28) (cond (not (eqb (w % 65536) 0)) (16777216 * 2 ^ a) 0) (2 ^ (w / 2 ^ 28)) (has_own (w / 2 ^ 28))

some_mark : (a w k : ℕ) → w < 4294967296 → 16 ≤ k → Has k (mark a w) → (k ≡ 24 + a) × (rbwb_of w ≡ 0 → ⊥)
unfolding mark some
some_mark a w k l m h =
    ⊎_elim (λ (p : Has k (some a w)). has_some k a w p)
    (λ (p : Has k (2 ^ (w / 2 ^ 28))). absurd (omega (arith, has_pow k (w / 2 ^ 28) p)))
    (has_or k (some a w) (2 ^ (w / 2 ^ 28)) h)

shares_mark : (a w k : ℕ) → k < 16 → Has k (mark a w) → w / 2 ^ 28 ≡ k
unfolding mark some
shares_mark a w k l h =
    ⊎_elim (λ (p : Has k (some a w)). absurd (omega (arith, (has_some k a w p).0)))
    (λ (p : Has k (2 ^ (w / 2 ^ 28))). sym (has_pow k (w / 2 ^ 28) p))
    (has_or k (some a w) (2 ^ (w / 2 ^ 28)) h)

-- ---- the row of the words w 0 .. w (na - 1)

-- a word that names an AT shares it, and that AT has blocks
abbrev pub Led : ℕ → (ℕ → ℕ) → ℕ → Type 0
Led na w a = 0 < w a / 2 ^ 28 → (use_shared_of (w a) ≡ 1) × ((shared_at_of (w a) < na) × (rbwb_of (w (shared_at_of (w a))) ≡ 0 → ⊥))

module _ (na : ℕ) (w : ℕ → ℕ) (fit : (a : ℕ) → a < na → w a < 4294967296) where
  row : ℕ
  row = union_below na (λ a. mark a (w a))

  pub row_held : lacking (union_below na (λ a. mark a (w a))) ≡ 0 → (a : ℕ) → a < na → Led na w a
  unfolding row use_shared_of shared_at_of
  row_held z a l p =
      let k = w a / 2 ^ 28 in
      let h : Has k row = union_has na (λ a. mark a (w a)) k a l (mark_shares a (w a)) in
      let r = has_union na (λ a. mark a (w a)) (16 + k) (held row z k p (omega (arith, fit a l)) h) in
      let q = some_mark r.at (w r.at) (16 + k) (fit r.at r.below) (omega arith) r.has in
      let e : shared_at_of (w a) ≡ r.at = omega (arith, fit a l, q.0) in
      (omega (arith, fit a l, q.0), (le_trans (le_of_eq (ap suc e)) r.below, λ b. q.1 (ap (λ (x : ℕ). rbwb_of (w x)) (sym e) ∙ b)))

  pub held_row : ((a : ℕ) → a < na → Led na w a) → lacking (union_below na (λ a. mark a (w a))) ≡ 0
  unfolding row use_shared_of shared_at_of
  held_row f =
      lacks_none row
      (λ k p l h. let r = has_union na (λ a. mark a (w a)) k h in
      let s = shared_at_of (w r.at) in
      let e = shares_mark r.at (w r.at) k l r.has in
      let g = f r.at r.below (omega arith) in
      let t : 24 + s ≡ 16 + k = omega (arith, fit r.at r.below, g.0) in
      ap (λ (j : ℕ). row / 2 ^ j % 2) (sym t) ∙ union_has na (λ a. mark a (w a)) (24 + s) s g.1.0 (mark_some s (w s) g.1.1))
