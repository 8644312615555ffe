use Rattle.monitor.proofs.checks.counters_ok.Goals as goal

pub returns : goal.returns
returns c = c.union_ok.ensures c.args.t.now (record { is = c.union64.ensures; fits = λ i. (c.type_inv.t i).fits })
