use Rattle.session.proofs.Laws.{fronts_sized, sized_after, perform_is}
use Rattle.std.proofs.Common.{rules}
use Rattle.session.proofs.perform_in_front.Goals as goal

pub returns : goal.returns
returns c = let n = c.pairs-pairs in let p = c.perform in let q = perform_is c.args.«record».now p.new.«record» p.result c.args.call n.result c.args.active.now c.args.configured.now c.args.used.now c.args.counters.now c.args.events.now c.args.waiters.now _ _ _ _ _ _ c.requires.0 n.ensures.is (sized_after (fronts_sized _ _ _ _ _ _ _ _ c.requires.0 n.ensures.is n.ensures.small c.requires.1) (search rules) (search rules) (search rules) (search rules) (search rules) (search rules)) p.ensures in record { answer = q.0; tables = q.1 }
