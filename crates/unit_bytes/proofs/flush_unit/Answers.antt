use mathlib.Core.Path.{refl}
use lib.Dec.{lit<}
use Rattle.words.proofs.Held.{table_put}
use Rattle.unit_bytes.proofs.flush_unit.Goals as goal

pub returns-then-is_of : goal.returns-then-is_of
returns-then-is_of c =
    let counted = c.before in
    let of = counted.before in
    let a = of.args in
    rw (← of.word-owner.ensures, ← of.is_of.ensures, counted.if-is_of.true)
    (table_put 4 (lit< tt) _ _ a.owners.now _ (lit< tt) c.put.ensures, counted.count_emptied.ensures)

pub returns-else-is_of : goal.returns-else-is_of
returns-else-is_of c = rw (← c.word-owner.ensures, ← c.is_of.ensures, c.if-is_of.false) (refl, refl)
