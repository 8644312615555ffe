use mathlib.Core.Path.{◌≡◌, ◌∙◌}
use mathlib.Core.Bool.{Bool, true, false, cond, ◌&&◌}
use mathlib.Core.List.{List, map}
use Prim.Native.Nat.{ℕ}
use lib.ListN.{set}
use Rattle.fields.specs.Layout.{unpack}
use Rattle.fields.specs.Registers.{bw_alloc}
use Rattle.fields.specs.View.{of_bw_alloc}
use Rattle.fields.specs.declared.BwAlloc.{BwAlloc}
use Rattle.tables.proofs.Tests.{of_true, of_false}
use Rattle.bandwidth_model.specs.Rules.{weight_of, is_holder, with_weight, settled_row}
use Rattle.bandwidth_settings.proofs.Words.{settle_yes, settle_no}
use Rattle.bandwidth_settings.proofs.settle_row.Goals as goal

-- a holder's setting, over what the callees give
carries : (row placed left : List ℕ) (at word : ℕ) (f : BwAlloc) (made holds : Bool) → of_bw_alloc f ≡ unpack bw_alloc word → placed ≡ cond made (set row at word) row
    → holds ≡ is_holder word → (made && holds) ≡ true → left ≡ map (with_weight f.mweight) placed → left ≡ cond made (settled_row row at word) row
unfolding weight_of
carries row placed left at word f made holds e p h t l =
    let weight : f.mweight ≡ weight_of word = cc in
    l ∙ rw (weight, p) (settle_yes row at word made (of_true {b = made && is_holder word} (cc)))

-- any other, or none
stays : (row placed : List ℕ) (at word : ℕ) (made holds : Bool) → placed ≡ cond made (set row at word) row → holds ≡ is_holder word → (made && holds) ≡ false
    → placed ≡ cond made (settled_row row at word) row
stays row placed at word made holds p h t = p ∙ settle_no row at word made (of_false {b = made && is_holder word} (cc))

pub returns-then-made-is_holder : goal.returns-then-made-is_holder
returns-then-made-is_holder c =
    let s = c.before in
    carries s.args.row.now _ _ s.args.at s.args.word _ s.args.made _ c.unpack-f.ensures.is
    c.store.ensures c.is_holder.ensures
    c.if-made-is_holder.true c.carry_weight.ensures

pub returns-else-made-is_holder : goal.returns-else-made-is_holder
returns-else-made-is_holder c =
    let s = c.before in
    stays s.args.row.now _ s.args.at s.args.word s.args.made _ c.store.ensures c.is_holder.ensures c.if-made-is_holder.false
