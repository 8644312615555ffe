use mathlib.Core.Path.{◌≡◌, ◌∙◌}
use mathlib.Core.Bool.{Bool, cond}
use mathlib.Core.List.{List, [], ◌∷◌}
use Prim.Native.Nat.{ℕ}
use lib.ListN.{get_or}
use Rattle.fields.specs.Layout.{pack}
use Rattle.fields.specs.Registers.{alloc_ctl}
use Rattle.fields.specs.declared.AllocCtl.{AllocCtl}
use Rattle.codes.specs.declared.Resource.TheVariants.{Bandwidth}
use Rattle.allocation.specs.Allocation.{alloc_word, performs, operation_status, succeeds, table_after}
use Rattle.allocation.specs.View.{AllocFields, sets, reads, EffectOf}
use Rattle.allocation.specs.declared.Effect.{Effect}
use Rattle.bandwidth_model.specs.Rules.{Setup, stored_form, settled_row}
use Rattle.bandwidth_settings.specs.View.{allocation}
use Rattle.bandwidth_settings.specs.Rows.{bad_operand_in, write_row}
use Rattle.bandwidth_settings.proofs.write_row.Goals as goal

-- the write over what the callees give
steps : (su : Setup) (sum bw v st old word ctl new : ℕ) (row left : List ℕ) (bad : Bool) (effect : Effect) (f : AllocCtl) → AllocFields su.na v f → bad ≡ bad_operand_in su sum row f.at bw
    → st ≡ operation_status Bandwidth su.nr su.na bad v → EffectOf Bandwidth f.op st effect → old ≡ get_or row f.at 0 → word ≡ stored_form bw → left ≡ cond (sets effect) (settled_row row f.at word) row
    → ctl ≡ pack alloc_ctl (0 ∷ st ∷ f.rcid ∷ f.at ∷ f.op ∷ []) → new ≡ cond (reads effect) old bw
    → allocation ctl new left ≡ write_row su sum bw row v
unfolding write_row alloc_word table_after succeeds performs
steps su sum bw v st old word ctl new row left bad effect f h e₁ e₂ d e₃ e₄ e₅ e₆ e₇ = cc (h.rcid_is, h.at_is, h.op_is, d.sets_is, d.reads_is)

pub returns : goal.returns
returns c =
    let s = c.before in
    let e = s.before in
    let t = e.before in
    steps _ _ _ _ _ _ _ _ _ _ _ _ _ _ t.held_fields-f.ensures t.bad_operand-bad.ensures t.alloc_status-status.ensures.is e.effect_of-effect.ensures
    (e.from-old.ensures ∙ e.word.ensures) s.stored_word.ensures.is (cc) c.alloc_word.ensures (cc)
