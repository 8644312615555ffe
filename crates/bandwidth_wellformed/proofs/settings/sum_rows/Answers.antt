use Rattle.bandwidth_wellformed.proofs.settings.sum_rows.Goals as goal

pub returns : goal.returns
returns c =
    record {
      active = c.sum_table-a.ensures;
      configured = c.sum_configured-c.ensures;
      over = rw c.requires.used_long c.over_bits-over.ensures;
    }
