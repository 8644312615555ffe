use Rattle.monitor_bytes.proofs.Words.{wrote_bytes}
use Rattle.monitor_bytes.proofs.write_mon.Goals as goal

pub returns : goal.returns
returns c =
    λ ns es hn he.
    let left = c.before in
    wrote_bytes _ _ ns es hn he _ _ _ _ _ _ left.args.registers _ _ _ left.named_mcid-i.ensures left.word.ensures
    left.word-2.ensures left.mon_after-left.ensures c.put.ensures c.put-2.ensures
