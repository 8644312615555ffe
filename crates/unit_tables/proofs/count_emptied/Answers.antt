use Rattle.unit_tables.proofs.Steps.{emptied_at}
use Rattle.unit_tables.proofs.count_emptied.Goals as goal

pub returns : goal.returns
returns c =
    let counted = c.before in
    let a = counted.args in
    emptied_at a.counters.now a.events.now _ _ _ _ _ counted.word.ensures counted.word-2.ensures c.put.ensures a.owner
    counted.owner_mcid-i.ensures counted.emptied_counter-counter.ensures
