use mathlib.Core.Path.{◌≡◌, ap, ◌∙◌}
use Prim.Native.Nat.{ℕ}
use native.Mathlib.Omega.{arith}
use lib.ListN.{length, take, replicate, length-take}
use Rattle.bandwidth_model.specs.Rules.{pairs}
use Rattle.bandwidth_setup.specs.View.{setup_of}
use Rattle.bandwidth.specs.View.{reset_row}
use Rattle.bandwidth.proofs.ResetTable.{first_inside, reset_words}
use Rattle.bandwidth.proofs.reset.reset_table.Goals as goal

pub slice_bounds-reset_row-end : goal.slice_bounds-reset_row-end
slice_bounds-reset_row-end c =
    omega (arith, first_inside _ c.requires.0, c.requires.1, c.fill.auto.self)

pub slice_bounds-reset_row-end-2 : goal.slice_bounds-reset_row-end-2
slice_bounds-reset_row-end-2 c =
    simp length-take (omega (arith, first_inside _ c.requires.0, c.requires.1, c.fill.auto.self))

pub returns : goal.returns
returns c =
    let su = setup_of c.args.setup in
    let f = c.fill in
    let long : length (take su.na f.new.self) ≡ su.na = simp length-take (omega (arith, first_inside su c.requires.0, c.requires.1, f.auto.self)) in
    let zeros : f.new.self ≡ replicate (pairs su) 0 = f.ensures.after (λ _ e. e) ∙ ap (λ (n : ℕ). replicate n 0) c.requires.1 in
    let row : c.reset_row.new.row ≡ reset_row su su.na = c.reset_row.ensures ∙ ap (reset_row su) long in
    rw (row, zeros) (reset_words su c.requires.0)
