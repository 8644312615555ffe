use lib.ListN.{length, get_or}
use Rattle.capacity_masks.proofs.masks_ok.Goals as goal

pub returns : goal.returns
returns c =
    let t = c.args.masks.now in
    c.union_ok.ensures (length t) (λ i. get_or t i 0) c.union64.ensures
