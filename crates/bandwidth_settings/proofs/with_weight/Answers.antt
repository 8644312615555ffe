use mathlib.Core.Path.{◌≡◌}
use mathlib.Core.Bool.{Bool, cond}
use Prim.Native.Nat.{ℕ}
use Rattle.fields.specs.Layout.{unpack}
use Rattle.fields.specs.Registers.{bw_alloc}
use Rattle.fields.specs.View.{of_bw_alloc}
use Rattle.fields.specs.declared.BwAlloc.{BwAlloc}
use Rattle.bandwidth_model.specs.Rules.{rbwb_of, holder_word, is_holder, with_weight}
use Rattle.bandwidth_settings.proofs.Words.{small, with_le}
use Rattle.bandwidth_settings.proofs.with_weight.Goals as goal

-- the word over what the callees give
steps : (weight word new r : ℕ) (f : BwAlloc) (holds : Bool) → of_bw_alloc f ≡ unpack bw_alloc word → holds ≡ is_holder word → new ≡ holder_word f.rbwb weight
    → r ≡ cond holds new word → r ≡ with_weight weight word
unfolding with_weight rbwb_of
steps weight word new r f holds e h n p = cc

pub returns : goal.returns
returns c =
    let s = c.before in
    small _ _ _ (steps _ _ _ _ _ _ c.unpack-f.ensures.is c.is_holder.ensures c.holder_word.ensures c.pick.ensures)
    (with_le s.args.weight s.args.word s.requires.0 s.requires.1)
