-- The code's set-up, alloc_ctl, block_mask and masks as the model's.
use Rattle.std.specs.Prelude.{List, ℕ}
use Rattle.capacity_model.specs.Rules as rules
use Rattle.capacity_model.specs.Model.{Allocation}
use Rattle.capacity_masks.specs.declared.setup.Setup.{Setup}

abbrev pub setup_of : Setup → rules.Setup
setup_of s = record { ncblks = s.ncblks; nr = s.nr; na = s.na; nm = s.nm; w = s.w; units = s.units }

-- alloc_ctl, block_mask and the masks
abbrev pub allocation : ℕ → ℕ → List ℕ → Allocation
allocation ctl mask masks = record { ctl = ctl; mask = mask; masks = masks }
