use mathlib.Core.Path.{ap, ◌∙◌}
use mathlib.Core.List.{List}
use Prim.Native.Nat.{ℕ}
use lib.ListN.{replicate}
use Rattle.capacity_model.proofs.Setup.{ranges}
use Rattle.capacity.proofs.Checks.{setup_passed, lengths_passed}
use Rattle.capacity.proofs.Calls.{reset_refused, reset_performed}
use Rattle.capacity.proofs.Record.reset.Goals as goal

pub returns-in-Err : goal.returns-in-Err
returns-in-Err c = rw c.refused.ensures (reset_refused _ _ _ c.in-Err.ensures)

pub reset_masks-requires : goal.reset_masks-requires
reset_masks-requires c =
    let e = c.in_default.ensures in
    (ranges _ (setup_passed _ _ e), (lengths_passed _ _ e).masks_long)

pub returns : goal.returns
returns c =
    let e = c.in_default.ensures in
    let z = lengths_passed _ _ e in
    let zeros : ℕ → List ℕ = λ n. replicate n 0 in
    rw (c.answered.ensures, c.fresh.ensures)
    (reset_performed _ _ e _ _ _ _ c.reset_masks.ensures (c.fill.ensures.after (λ y q. q) ∙ ap zeros z.counters_long)
    (c.fill-2.ensures.after (λ y q. q) ∙ ap zeros z.events_long) (c.fill-3.ensures.after (λ y q. q) ∙ ap zeros z.owners_long))
