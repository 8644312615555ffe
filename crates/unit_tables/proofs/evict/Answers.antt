use Rattle.unit_tables.proofs.evict.Goals as goal

pub returns : goal.returns
returns c =
    let counted = c.before in
    (c.put.ensures, rw (← counted.word.ensures) counted.count_emptied.ensures)
