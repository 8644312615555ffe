use Rattle.std.proofs.Common.{◌≡◌, length, take}
use Rattle.std.proofs.Math.Seq.{length-take-le}
use Rattle.numbers.proofs.Lists.{number_words}
use Rattle.mask_tables.proofs.table.store.Goals as goal

pub returns : goal.returns
returns g c =
    let a = c.args in
    let long : length (take a.n a.mask.now) ≡ a.n = length-take-le _ _ c.requires.0 in
    λ ws e. rw (number_words a.n a.mask.now c.requires.0 (λ i. (c.type_inv.mask i).fits)) (rw long at (c.store_words.ensures ws e))
