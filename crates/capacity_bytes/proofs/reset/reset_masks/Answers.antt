use mathlib.Core.Path.{ap, ◌∙◌}
use Prim.Native.Nat.{ℕ}
use lib.ListN.{take, replicate}
use Rattle.words.specs.Words.{bytes_of_all}
use Rattle.capacity_masks.specs.View.{setup_of}
use Rattle.capacity_bytes.proofs.Resets.{row_inside, front_long, row_fits, masks_reset}
use Rattle.capacity_bytes.proofs.reset.reset_masks.Goals as goal

pub slice_bounds-encode-end-2 : goal.slice_bounds-encode-end-2
slice_bounds-encode-end-2 c =
    let f = c.fill in
    row_inside (setup_of c.args.setup) c.requires.0 f.new.self (f.ensures.len ∙ c.requires.1) 0

pub slice_bounds-encode-end-3 : goal.slice_bounds-encode-end-3
slice_bounds-encode-end-3 c =
    let f = c.fill in
    front_long (setup_of c.args.setup) c.requires.0 f.new.self (f.ensures.len ∙ c.requires.1) 0

pub encode-requires : goal.encode-requires
encode-requires c =
    let f = c.fill in
    row_fits (setup_of c.args.setup) c.requires.0 f.new.self (f.ensures.len ∙ c.requires.1) c.all_blocks-row.result

pub returns : goal.returns
returns c =
    let su = setup_of c.args.setup in
    masks_reset su c.requires.0 _ _ (c.encode.ensures ∙ ap (λ (x : ℕ). bytes_of_all 8 (take su.na (replicate 8 x))) c.all_blocks-row.ensures)
    (c.fill.ensures.after (λ y e. e) ∙ ap (λ (n : ℕ). replicate n 0) c.requires.1)
