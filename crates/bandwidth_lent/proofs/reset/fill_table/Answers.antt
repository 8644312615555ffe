use mathlib.Core.Path.{ap, ◌∙◌}
use Prim.Native.Nat.{ℕ}
use native.Mathlib.Omega.{arith}
use lib.ListN.{replicate}
use Rattle.bandwidth_setup.specs.View.{setup_of}
use Rattle.bandwidth.specs.View.{reset_row}
use Rattle.bandwidth.proofs.ResetTable.{first_inside}
use Rattle.bandwidth_lent.proofs.Resets.{reset_stored}
use Rattle.bandwidth_lent.proofs.reset.fill_table.Goals as goal

pub store_part-requires : goal.store_part-requires
store_part-requires c =
    omega (arith, first_inside _ c.requires.0, c.requires.1.0, c.requires.1.1, c.fill.auto.self, c.reset_row.auto.row)

pub returns : goal.returns
returns c =
    let su = setup_of c.args.setup in
    reset_stored su c.requires.0 _ _ _ (c.reset_row.ensures ∙ ap (reset_row su) c.requires.1.1) (c.reset_row.auto.row ∙ c.requires.1.1)
    (c.fill.ensures.after (λ n e. e) ∙ ap (λ (n : ℕ). replicate n 0) c.requires.1.0) c.store_part.ensures
