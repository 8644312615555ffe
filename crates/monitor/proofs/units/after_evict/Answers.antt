use mathlib.Core.Path.{◌∙◌}
use lib.Dec.{eqb}
use Rattle.monitor.specs.Occupancy.{occupancy_word}
use Rattle.monitor.proofs.Occupancy.{evict_fits, evict_is}
use Rattle.monitor.proofs.units.after_evict.Goals as goal

pub pack-requires : goal.pack-requires
pack-requires c =
    let u = c.before in
    rw (c.pick.ensures, c.saturating_sub.ensures) (evict_fits u.args.word _ _ u.unpack-counter.ensures (eqb u.unpack-counter.result.ctr 0))

pub returns : goal.returns
unfolding occupancy_word
returns c =
    let u = c.before in
    c.pack.ensures ∙ rw (c.pick.ensures, c.saturating_sub.ensures) (evict_is u.args.word _ _ u.unpack-counter.ensures)
