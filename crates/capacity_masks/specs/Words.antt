-- The write of a value to alloc_ctl, on the mask of the pair that it names.
use Rattle.std.specs.Prelude.{◌≡◌, List, ℕ, get_or, set}
use Rattle.access.specs.Pairs.{pair}
use Rattle.allocation.specs.Allocation.{rcid_of, at_of}
use Rattle.codes.specs.declared.AllocOp.TheVariants.{FlushRcid}
use Rattle.capacity_model.specs.Rules.{Setup, alloc_succeeds}
use Rattle.capacity_model.specs.Model.{write_alloc}
use Rattle.capacity_masks.specs.View.{allocation}
use Rattle.capacity_masks.specs.declared.AllocWords.{AllocWords}

-- the place of the mask
abbrev pub pair_of : Setup → ℕ → ℕ
pair_of su v = pair su.na (rcid_of v) (at_of su.na v)

-- r is what the write leaves where block_mask is operand, in every table that has this mask there, and tells whether it flushes
pub record AllocAfter (su : Setup) (operand mask v : ℕ) (r : AllocWords) : Type 0 where
  pub words : (masks : List ℕ) → mask ≡ get_or masks (pair_of su v) 0 → allocation r.ctl r.operand (set masks (pair_of su v) r.mask) ≡ write_alloc su operand masks v
  pub flushes_is : r.flushes ≡ alloc_succeeds su operand FlushRcid v
