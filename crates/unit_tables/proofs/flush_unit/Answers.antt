use mathlib.Core.Path.{refl}
use Rattle.unit_tables.proofs.flush_unit.Goals as goal

pub returns-then-is_of : goal.returns-then-is_of
returns-then-is_of c =
    let counted = c.before in
    let of = counted.before in
    rw (← of.is_of.ensures, counted.if-is_of.true) (refl, counted.count_emptied.ensures)

pub returns-else-is_of : goal.returns-else-is_of
returns-else-is_of c = rw (← c.is_of.ensures, c.if-is_of.false) (refl, refl)
