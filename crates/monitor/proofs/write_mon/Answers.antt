use Rattle.monitor.specs.View.{monitor_of}
use Rattle.monitor.proofs.Steps.{wrote}
use Rattle.monitor.proofs.write_mon.Goals as goal

pub returns : goal.returns
returns c =
    let left = c.before in
    let a = left.args in
    wrote _ _ _ _ _ _ (monitor_of a.registers a.counters.now a.events.now) _ _ _ left.named_mcid-i.ensures left.word.ensures
    left.word-2.ensures left.mon_after-left.ensures c.put.ensures c.put-2.ensures
