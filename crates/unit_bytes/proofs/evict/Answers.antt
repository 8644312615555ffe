use Rattle.std.proofs.Common.{rules}
use lib.Dec.{lit<}
use Rattle.words.proofs.Held.{table_put, left_held}
use Rattle.unit_bytes.proofs.evict.Goals as goal

pub returns : goal.returns
returns c =
    λ os ns es ho hn he.
    let counted = c.before in
    let a = counted.args in (
      left_held 4 (lit< tt) a.owners.now os _ _ ho (search rules) (λ j. (c.type_inv.owners j).fits)
          (rw ho.words_are (table_put 4 (lit< tt) _ _ a.owners.now _ (lit< tt) c.put.ensures)),
      left_held 8 (lit< tt) a.counters.now ns _ _ hn (search rules) (λ j. (c.type_inv.counters j).fits)
          (rw (ho.words_are, hn.words_are, he.words_are, ← counted.word.ensures) counted.count_emptied.ensures),
    )
