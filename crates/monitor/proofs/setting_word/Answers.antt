use Rattle.monitor.proofs.Steps.{setting_fits, setting_of_lem}
use Rattle.monitor.proofs.setting_word.Goals as goal

pub pack-requires : goal.pack-requires
pack-requires c = rw c.pick.ensures (setting_fits _ _ _ c.unpack_held-ctl.ensures)

pub returns : goal.returns
returns c =
    let s = c.before in
    setting_of_lem _ _ _ s.unpack_held-ctl.ensures _ (rw (c.pick-2.ensures, c.pack.ensures, s.stops.ensures, s.pick.ensures))
