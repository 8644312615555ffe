-- What the form bits of a settings word say of its fields, both ways.
use mathlib.Core.Path.{◌≡◌, sym, ap, ◌∙◌}
use mathlib.Core.Bool.{Bool, true, false, cond}
use mathlib.Core.List.{[], ◌∷◌}
use Prim.Native.Nat.{ℕ, ◌+◌, ◌*◌, ◌/◌, ◌%◌, ◌^◌, ◌<◌}
use native.Mathlib.Nat.{mod-eq_of_lt}
use native.Mathlib.Omega.{arith}
use lib.Dec.{lit≤, eqb, eqb→eq}
use lib.Bits.{bit_and, and_mask}
use Rattle.fields.specs.Layout.{Place, bits, named_bits}
use Rattle.fields.specs.Registers.{rbwb, mweight, shared_at, use_shared}
use Rattle.fields.proofs.Laws.{pack_unpack}
use Rattle.tables.proofs.Tests.{cases, is_true, is_false, eqb_in, neqb, neqb_in}
use Rattle.bandwidth_model.specs.Rules.{rbwb_of, weight_of, shared_at_of, use_shared_of, holder_word, sharer_word, stored_form, reserved}
use Rattle.bandwidth_model.proofs.Words.{not_0, stored_0, stored_1, reserved_0, reserved_blocks, reserved_sharer}
use Rattle.bandwidth_wellformed.specs.Bits.{form_bits}

-- a word by itself: unset, a holder's or a sharer's
pub data Form (w : ℕ) : Type 0 where
  unset : w ≡ 0 → Form w
  holder : w ≡ stored_form w → use_shared_of w ≡ 0 → 0 < rbwb_of w → Form w
  sharer : w ≡ stored_form w → use_shared_of w ≡ 1 → rbwb_of w ≡ 0 → Form w

pub low_blocks : (w : ℕ) → w % 65536 ≡ rbwb_of w
unfolding rbwb_of
low_blocks w = omega arith

-- ---- the form bits, where it is known whether the word has blocks

-- bits 19:16, which no field has
abbrev gap : Place
gap = bits 19 16

form_at : (w : ℕ) (e : Bool) → eqb (w % 65536) 0 ≡ e → form_bits w ≡ bit_and w (cond e 0x0fffffff 0xf00f0000)
unfolding form_bits
form_at w e p = rw p

module _ (w : ℕ) where
  full_bits : (w % 65536 ≡ 0 → ⊥) → form_bits w ≡ named_bits (use_shared ∷ shared_at ∷ gap ∷ []) w
  full_bits n =
      form_at w false (is_false _ (neqb_in (w % 65536) 0 n))
      ∙ sym (pack_unpack (use_shared ∷ shared_at ∷ gap ∷ []) 32 w (lit≤ tt, (lit≤ tt, (lit≤ tt, tt))))

  empty_bits : w % 65536 ≡ 0 → form_bits w ≡ named_bits (mweight ∷ gap ∷ rbwb ∷ []) w
  empty_bits n =
      form_at w true (is_true _ (eqb_in (w % 65536) 0 n))
      ∙ sym (pack_unpack (mweight ∷ gap ∷ rbwb ∷ []) 32 w (lit≤ tt, (lit≤ tt, (lit≤ tt, tt))))

  -- a word that shares is not below 2^28
  pub shares_top : use_shared_of w ≡ 1 → 0 < w / 2 ^ 28
  unfolding use_shared_of
  shares_top u = omega arith

-- ---- a word of 32 bits

module _ (w : ℕ) (fit : w < 4294967296) where
  -- its fields and the gap are all of it
  whole : named_bits (use_shared ∷ shared_at ∷ mweight ∷ gap ∷ rbwb ∷ []) w ≡ w
  whole =
      pack_unpack (use_shared ∷ shared_at ∷ mweight ∷ gap ∷ rbwb ∷ []) 32 w (lit≤ tt, (lit≤ tt, (lit≤ tt, (lit≤ tt, (lit≤ tt, tt)))))
      ∙ and_mask w 32 ∙ mod-eq_of_lt fit

  holder_form : (w % 65536 ≡ 0 → ⊥) → form_bits w ≡ 0 → Form w
  unfolding holder_word weight_of rbwb_of use_shared_of
  holder_form n z =
      let u : use_shared_of w ≡ 0 = omega (arith, full_bits w n) in
      holder (omega (arith, whole, full_bits w n, stored_0 w u)) u (omega arith)

  sharer_form : use_shared_of w ≡ 1 → w % 65536 ≡ 0 → form_bits w ≡ 0 → Form w
  unfolding sharer_word use_shared_of shared_at_of
  sharer_form u n z =
      let e : w ≡ use_shared_of w * 2 ^ 31 + (shared_at_of w * 2 ^ 28 + 0) =
      sym whole ∙ ap (λ (x : ℕ). use_shared_of w * 2 ^ 31 + (shared_at_of w * 2 ^ 28 + x)) (sym (empty_bits w n) ∙ z) in
      sharer (e ∙ ap (λ (x : ℕ). x * 2 ^ 31 + (shared_at_of w * 2 ^ 28 + 0)) u ∙ sym (stored_1 w (not_0 w u))) u (omega (arith, low_blocks w))

  -- where a word that names an AT shares
  pub formed : form_bits w ≡ 0 → (0 < w / 2 ^ 28 → use_shared_of w ≡ 1) → Form w
  formed z f =
      cases (λ b. Form w) (eqb (w % 65536) 0)
      (λ t. let n = eqb→eq (w % 65536) 0 t in
      cases (λ b. Form w) (eqb (w / 2 ^ 28) 0)
      (λ s. let d = eqb→eq (w / 2 ^ 28) 0 s in unset (omega (arith, whole, empty_bits w n)))
      (λ s. let d = neqb (w / 2 ^ 28) 0 s in sharer_form (f (omega arith)) n z))
      (λ t. holder_form (neqb (w % 65536) 0 t) z)

  pub form_of : Form w → form_bits w ≡ 0
  unfolding holder_word sharer_word weight_of rbwb_of shared_at_of use_shared_of
  form_of (unset e) = empty_bits w (omega arith) ∙ omega arith
  form_of (holder e u p) = full_bits w (λ s. omega arith) ∙ omega (arith, whole, stored_0 w u)
  form_of (sharer e u n) = empty_bits w (omega arith) ∙ omega (arith, whole, stored_1 w (not_0 w u))

  pub form_shares : Form w → 0 < w / 2 ^ 28 → use_shared_of w ≡ 1
  unfolding holder_word weight_of rbwb_of
  form_shares (unset e) p = absurd (omega arith)
  form_shares (holder e u q) p = absurd (omega (arith, stored_0 w u))
  form_shares (sharer e u n) p = u

-- a word of the right form reserves its Rbwb
pub form_reserved : (w : ℕ) → Form w → reserved w ≡ w % 65536
form_reserved w (unset e) = ap reserved e ∙ reserved_0 ∙ omega arith
form_reserved w (holder e u p) = reserved_blocks w u ∙ sym (low_blocks w)
form_reserved w (sharer e u n) = reserved_sharer w (not_0 w u) ∙ omega (arith, low_blocks w)
