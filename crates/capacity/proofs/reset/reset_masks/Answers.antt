use mathlib.Core.Path.{◌≡◌, ap, ap₂, ◌∙◌}
use Prim.Native.Nat.{ℕ}
use native.Mathlib.Omega.{arith}
use lib.ListN.{length, take, replicate, length-take}
use Rattle.capacity_model.specs.Rules.{pairs, all_blocks}
use Rattle.capacity_masks.specs.View.{setup_of}
use Rattle.capacity_masks.proofs.Words.{first_inside, reset_words}
use Rattle.capacity.proofs.reset.reset_masks.Goals as goal

pub slice_bounds-fill-end : goal.slice_bounds-fill-end
slice_bounds-fill-end c = omega (arith, first_inside (setup_of c.args.setup) c.requires.0.nr_low, c.requires.1, c.fill.ensures.len)

pub slice_bounds-fill-end-2 : goal.slice_bounds-fill-end-2
slice_bounds-fill-end-2 c = simp length-take (omega (arith, first_inside (setup_of c.args.setup) c.requires.0.nr_low, c.requires.1, c.fill.ensures.len))

pub returns : goal.returns
returns c =
    let su = setup_of c.args.setup in
    let f = c.fill in
    let inside = first_inside su c.requires.0.nr_low in
    let long : length (take su.na f.new.self) ≡ su.na = simp length-take (omega (arith, inside, c.requires.1, f.ensures.len)) in
    let zeros : f.new.self ≡ replicate (pairs su) 0 = f.ensures.after (λ y e. e) ∙ ap (λ (n : ℕ). replicate n 0) c.requires.1 in
    let first : c.fill-2.new.self ≡ replicate su.na (all_blocks su) = c.fill-2.ensures.after (λ y e. e) ∙ ap₂ (λ (n x : ℕ). replicate n x) long c.all_blocks.ensures in
    rw (first, zeros) (reset_words su c.requires.0.nr_low)
