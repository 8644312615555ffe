use lib.Dec.{lit<}
use Rattle.words.specs.Words.{table_of}
use Rattle.words.proofs.Parts.{table_below}
use Rattle.monitor_bytes.proofs.counters_ok.Goals as goal

pub returns : goal.returns
returns c =
    let s = c.before in
    let t = s.args.t.now in
    c.union_ok.ensures (table_of 8 t) (record { is = c.union64.ensures; fits = table_below 8 t (lit< tt) (λ i. (c.type_inv.t i).fits) })
