use mathlib.Core.Path.{◌≡◌, ◌∙◌}
use mathlib.Core.Bool.{◌||◌}
use mathlib.Core.List.{List}
use Prim.Native.Nat.{ℕ, ◌+◌, ◌-◌}
use lib.Dec.{ltb, eqb}
use lib.ListN.{get_or}
use Rattle.fields.specs.Layout.{unpack}
use Rattle.fields.specs.Registers.{bw_alloc}
use Rattle.fields.specs.View.{of_bw_alloc}
use Rattle.fields.specs.declared.BwAlloc.{BwAlloc}
use Rattle.bandwidth_model.specs.Rules.{Setup, rbwb_of, reserved}
use Rattle.bandwidth_settings.specs.Rows.{bad_holder_in}
use Rattle.bandwidth_settings.proofs.operand.bad_holder.Goals as goal

-- the test over what the callees give
steps : (su : Setup) (sum : ℕ) (row : List ℕ) (at word w replaced left : ℕ) (f : BwAlloc) → of_bw_alloc f ≡ unpack bw_alloc word
    → w ≡ get_or row at 0 → replaced ≡ reserved w → left ≡ sum - replaced
    → (eqb f.rbwb 0 || ltb su.mrbwb (f.rbwb + left)) ≡ bad_holder_in su sum row at word
unfolding bad_holder_in rbwb_of
steps su sum row at word w replaced left f e g h k = cc

pub returns : goal.returns
returns c =
    let b = c.before in
    let u = b.before in
    steps _ _ _ _ _ _ _ _ _ u.unpack-f.ensures.is (b.from.ensures ∙ b.word.ensures) b.reserved_blocks-replaced.ensures.is c.saturating_sub.ensures
