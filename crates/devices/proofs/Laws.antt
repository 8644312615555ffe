-- The identifiers that a word names, by the layout that the mode chooses.
use mathlib.Core.Path.{◌≡◌, refl, sym, ap, ◌∙◌}
use mathlib.Core.Bool.{Bool, true, false, not, ◌||◌, cond}
use mathlib.Core.List.{◌∷◌, []}
use mathlib.Core.Logic.{◌⊎◌, inl, inr}
use Prim.Native.Nat.{ℕ}
use lib.Dec.{eqb}
use Rattle.tables.proofs.Tests.{cases}
use Rattle.fields.specs.Layout.{unpack}
use Rattle.fields.specs.Registers.{iommu_qosid, dc_ta}
use Rattle.devices.specs.Devices.{uses_directory, mode_of, identifiers_in, out_of_range}
use Rattle.devices.specs.declared.Identifiers.{Identifiers}
use Rattle.devices.specs.declared.IommuMode.{IommuMode}
use Rattle.devices.specs.declared.IommuMode.TheVariants.{Off, Bare, Directory}

abbrev pub ids : ℕ → ℕ → Identifiers
ids rcid mcid = record { rcid = rcid; mcid = mcid }

has_directory : IommuMode → Bool
has_directory Off = false
has_directory Bare = false
has_directory Directory = true

module _ (mode : ℕ) where
  uses_told : uses_directory mode ≡ has_directory (mode_of mode)
  unfolding mode_of has_directory
  uses_told = cases (λ b. not (b || eqb mode 1) ≡ has_directory (cond b Off (cond (eqb mode 1) Bare Directory))) (eqb mode 0) (λ t. refl)
      (λ f. cases (λ b. not b ≡ has_directory (cond b Bare Directory)) (eqb mode 1) (λ t. refl) (λ f. refl))

  -- by the mode that the number is
  pub directory : {m : IommuMode} → m ≡ mode_of mode → m ≡ Directory → uses_directory mode ≡ true
  unfolding has_directory
  directory p q = uses_told ∙ ap has_directory (sym p ∙ q)

  pub no_directory : {m : IommuMode} → m ≡ mode_of mode → (m ≡ Off) ⊎ (m ≡ Bare) → uses_directory mode ≡ false
  unfolding has_directory
  no_directory p (inl q) = uses_told ∙ ap has_directory (sym p ∙ q)
  no_directory p (inr q) = uses_told ∙ ap has_directory (sym p ∙ q)

  pub in_context : (word rcid mcid : ℕ) → uses_directory mode ≡ true → mcid ∷ rcid ∷ [] ≡ unpack dc_ta word → ids rcid mcid ≡ identifiers_in mode word
  unfolding identifiers_in
  in_context word rcid mcid t e = rw t cc

  pub in_register : (word rcid mcid : ℕ) → uses_directory mode ≡ false → mcid ∷ rcid ∷ [] ≡ unpack iommu_qosid word → ids rcid mcid ≡ identifiers_in mode word
  unfolding identifiers_in
  in_register word rcid mcid t e = rw t cc

  pub context_refusal : uses_directory mode ≡ true → 9 ≡ out_of_range mode
  unfolding out_of_range
  context_refusal t = rw t refl

  pub register_refusal : uses_directory mode ≡ false → 7 ≡ out_of_range mode
  unfolding out_of_range
  register_refusal t = rw t refl

  -- of both numbers, so of the one that the mode chooses
  pub out_of_range_by : (P : ℕ → Type 0) → P 9 → P 7 → P (out_of_range mode)
  unfolding out_of_range
  out_of_range_by P x y = cases (λ b. P (cond b 9 7)) (uses_directory mode) (λ t. x) (λ t. y)
