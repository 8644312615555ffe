use Rattle.bandwidth_model.proofs.Setup.{setup_ok_lem}
use Rattle.bandwidth_setup.specs.View.{setup_of}
use Rattle.session.proofs.Laws.{fronts_sized, sized_after, set_up_is}
use Rattle.std.proofs.Common.{rules}
use Rattle.session.proofs.set_up.Goals as goal

pub returns : goal.returns
returns c = let n = c.pairs-pairs in let p = c.reset-after in let su = setup_of c.args.setup in let z = fronts_sized su _ _ _ _ _ _ _ c.requires.0 n.ensures.is n.ensures.small c.requires.1 in let q = set_up_is su (setup_ok_lem su c.requires.0) _ _ _ c.reply_ack.result n.result c.args.active.now c.args.configured.now c.args.used.now c.args.counters.now c.args.events.now c.args.waiters.now _ _ _ _ _ _ z n.ensures.is (sized_after z (search rules) (search rules) (search rules) (search rules) (search rules) (search rules)) p.ensures c.reply_ack.ensures in record { answer = q.0; tables = q.1 }
