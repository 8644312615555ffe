-- The RCID and MCID of a device's request, where an IOMMU stands before the controller (rules V1 to V3 and R9).
use Rattle.std.specs.Prelude.{Bool, not, ◌||◌, ℕ, if◌then◌else◌, ◌==◌}
use Rattle.fields.specs.Layout.{get}
use Rattle.fields.specs.Registers.{qosid_rcid, qosid_mcid, ta_rcid, ta_mcid}
use Rattle.access.specs.declared.Refusal.TheVariants.{Identifier, DeviceContext}
use Rattle.access.specs.Refusals.{number_of}
use Rattle.devices.specs.declared.Identifiers.{Identifiers}
use Rattle.devices.specs.declared.IommuMode.{IommuMode}
use Rattle.devices.specs.declared.IommuMode.TheVariants.{Off, Bare, Directory}

-- mode 0 is off and 1 is bare; any other number is a device directory
abbrev pub uses_directory : ℕ → Bool
uses_directory mode = not (mode == 0 || mode == 1)

-- so by name
unfoldable pub mode_of : ℕ → IommuMode
mode_of mode = if mode == 0 then Off else (if mode == 1 then Bare else Directory)

-- the identifiers that a device's word names: with a directory it is DC.ta of the device context, else iommu_qosid; other bits are ignored
unfoldable pub identifiers_in : ℕ → ℕ → Identifiers
identifiers_in mode word =
    if uses_directory mode then record { rcid = get ta_rcid word; mcid = get ta_mcid word }
    else record { rcid = get qosid_rcid word; mcid = get qosid_mcid word }

-- the refusal where one of them is out of range: 9 for the device context's, 7 for the register's
unfoldable pub out_of_range : ℕ → ℕ
out_of_range mode = if uses_directory mode then number_of DeviceContext else number_of Identifier
