use mathlib.Core.Path.{◌≡◌, ◌∙◌}
use mathlib.Core.Bool.{Bool, not, ◌||◌}
use mathlib.Core.List.{List}
use Prim.Native.Nat.{ℕ}
use lib.Dec.{leb, eqb}
use lib.ListN.{get_or}
use Rattle.fields.specs.Layout.{unpack}
use Rattle.fields.specs.Registers.{bw_alloc}
use Rattle.fields.specs.View.{of_bw_alloc}
use Rattle.fields.specs.declared.BwAlloc.{BwAlloc}
use Rattle.tables.specs.Below.{any_below}
use Rattle.bandwidth_model.specs.Rules.{Setup, shared_at_of, is_holder}
use Rattle.bandwidth_settings.specs.Rows.{shares_in, bad_sharer_in}
use Rattle.bandwidth_settings.proofs.operand.bad_sharer.Goals as goal

-- the test over what the callees give
steps : (su : Setup) (row : List ℕ) (at word w : ℕ) (f : BwAlloc) (holder shared : Bool) → of_bw_alloc f ≡ unpack bw_alloc word
    → w ≡ get_or row f.sharedat 0 → holder ≡ is_holder w → shared ≡ any_below su.na (shares_in row at)
    → (eqb f.sharedat at || leb su.na f.sharedat || not holder || shared) ≡ bad_sharer_in su row at word
unfolding bad_sharer_in shared_at_of
steps su row at word w f holder shared e g h k = cc

pub returns : goal.returns
returns c =
    let h = c.before in
    steps _ _ _ _ _ _ _ _ h.unpack-f.ensures.is (h.from.ensures ∙ h.word.ensures) h.is_holder-holder.ensures c.is_shared.ensures
