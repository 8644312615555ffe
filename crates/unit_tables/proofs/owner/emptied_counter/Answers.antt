use Rattle.unit_tables.proofs.Steps.{emptied_word}
use Rattle.unit_tables.proofs.owner.emptied_counter.Goals as goal

pub returns : goal.returns
returns c =
    let unpacked = c.before in
    let a = unpacked.args in
    emptied_word a.owner a.counter a.setting _ _ _ unpacked.unpack-owner.ensures c.counted_evict.ensures c.pick.ensures
