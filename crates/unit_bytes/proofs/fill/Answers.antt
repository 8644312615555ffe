use Rattle.std.proofs.Common.{rules}
use lib.Dec.{lit<}
use Rattle.fields.specs.Registers as reg
use Rattle.words.specs.Words.{table_of}
use Rattle.words.proofs.Held.{table_put, left_held}
use Rattle.monitor.proofs.Counters.{counter_lt}
use Rattle.unit_tables.proofs.Steps.{refilled_is, emptied_ok}
use Rattle.unit_bytes.proofs.fill.Goals as goal

pub count_filled-requires : goal.count_filled-requires
count_filled-requires c =
    let counted = c.before in
    let s = counted.before in
    let a = s.args in (
      s.requires.1.w_high,
      rw counted.count_emptied.ensures
          (counter_lt reg.capacity_counter reg.capacity_ctr a.w _ ((emptied_ok a.w (table_of 8 a.counters.now) (table_of 2 a.events.now) _ s.requires.1).all a.mcid)),
    )

pub returns : goal.returns
returns c =
    λ os ns es ho hn he.
    let filled = c.before in
    let emptied = filled.before in
    let a = emptied.args in (
      left_held 4 (lit< tt) a.owners.now os _ _ ho (search rules) (λ j. (c.type_inv.owners j).fits)
          (rw (ho.words_are, ← c.owner_word.ensures) (table_put 4 (lit< tt) _ _ a.owners.now _ (search rules) c.put.ensures)),
      left_held 8 (lit< tt) a.counters.now ns _ _ hn (search rules) (λ j. (c.type_inv.counters j).fits)
          (rw (ho.words_are, hn.words_are, he.words_are, ← emptied.word-old.ensures) (refilled_is a.w (table_of 8 a.counters.now) (table_of 2 a.events.now) _ _ _ _ _ emptied.count_emptied.ensures filled.count_filled.ensures)),
    )
