use Rattle.mask_tables.proofs.table.load_if.Goals as goal

pub returns-then-b : goal.returns-then-b
returns-then-b g c = rw c.if-b.true c.load.ensures

pub returns-else-b : goal.returns-else-b
returns-else-b g c = rw c.if-b.false
