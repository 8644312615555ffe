use Rattle.std.proofs.Common.{rules}
use lib.Dec.{lit<}
use Rattle.words.specs.Words.{table_of}
use Rattle.words.proofs.Held.{table_put}
use Rattle.unit_tables.proofs.Steps.{emptied_at}
use Rattle.unit_bytes.proofs.count_emptied.Goals as goal

pub returns : goal.returns
returns c =
    let counted = c.before in
    let a = counted.args in
    emptied_at (table_of 8 a.counters.now) (table_of 2 a.events.now) _ _ _ _ _ counted.word.ensures counted.word-2.ensures
    (table_put 8 (lit< tt) _ _ a.counters.now _ (search rules) c.put.ensures) a.owner
    counted.owner_mcid-i.ensures counted.emptied_counter-counter.ensures
