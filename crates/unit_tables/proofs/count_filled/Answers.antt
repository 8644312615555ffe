use Rattle.unit_tables.proofs.Steps.{filled_at}
use Rattle.unit_tables.proofs.count_filled.Goals as goal

pub returns : goal.returns
returns c =
    let counted = c.before in
    let a = counted.args in
    filled_at a.counters.now a.events.now _ _ _ _ _ counted.word.ensures counted.word-2.ensures c.put.ensures a.w a.at
    counted.counted_fill-counter.ensures
