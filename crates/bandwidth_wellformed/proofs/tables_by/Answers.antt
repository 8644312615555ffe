use Rattle.bandwidth_wellformed.proofs.Tables.{tables_by}
use Rattle.bandwidth_wellformed.proofs.tables_by.Goals as goal

pub returns : goal.returns
returns c active configured used counters events waiters t =
    rw c.then_some.ensures (tables_by _ active configured used counters events waiters t c.table_ok-a.ensures c.table_ok-c.ensures)
