use Rattle.monitor.specs.Bytes.{counts_request, added}
use Rattle.monitor.proofs.Steps.{counted_at}
use Rattle.monitor.proofs.count_bytes.Goals as goal

pub returns : goal.returns
returns c =
    let counted = c.before in
    let a = counted.args in
    counted_at (λ s. counts_request s a.at a.kind) (added a.w a.bytes) a.counters.now a.events.now _ a.mcid _ _ _ counted.word.ensures
    counted.word-2.ensures counted.counted_bytes-counter.ensures c.put.ensures
