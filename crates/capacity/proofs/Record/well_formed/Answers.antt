use Rattle.capacity.proofs.Record.well_formed.Goals as goal

pub owners_ok-requires : goal.owners_ok-requires
owners_ok-requires c =
    let r = c.requires.0 in
    record { nr_low = r.nr_low; nr_high = r.nr_high; nm_low = r.nm_low; nm_high = r.nm_high; na_low = r.na_low; na_high = r.na_high }

pub returns : goal.returns
returns c =
    c.judge.ensures _ _ _ _ (record {
      sized = c.requires.1;
      masks_are = c.masks_ok.ensures;
      counters_are = c.counters_ok.ensures;
      events_are = c.events_ok.ensures;
      owners_are = c.owners_ok.ensures;
    })
