use Rattle.monitor.specs.Bytes.{counts_request, added}
use Rattle.monitor_bytes.proofs.Words.{counted_bytes}
use Rattle.monitor_bytes.proofs.count_bytes.Goals as goal

pub returns : goal.returns
returns c =
    λ ns es hn he.
    let counted = c.before in
    let a = counted.args in
    counted_bytes _ _ ns es hn he (λ s. counts_request s a.at a.kind) (added a.w a.bytes) _ a.mcid _ _ _ counted.word.ensures
    counted.word-2.ensures counted.counted_bytes-counter.ensures c.put.ensures
