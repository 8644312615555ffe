use Rattle.mask_tables.proofs.table.store_if.Goals as goal

pub store-requires : goal.store-requires
store-requires g c = (c.requires.0, c.requires.1 c.if-b.true)

pub returns-then-b : goal.returns-then-b
returns-then-b g c = λ ws e. rw c.if-b.true (c.store.ensures ws e)

pub returns-else-b : goal.returns-else-b
returns-else-b g c = λ ws e. rw c.if-b.false e
