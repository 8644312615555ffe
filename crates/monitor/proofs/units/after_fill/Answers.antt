use mathlib.Core.Path.{◌∙◌}
use lib.Dec.{eqb}
use Rattle.monitor.specs.Occupancy.{occupancy_word}
use Rattle.monitor.proofs.Occupancy.{fill_fits, fill_is}
use Rattle.monitor.proofs.units.after_fill.Goals as goal

pub pack-requires : goal.pack-requires
pack-requires c =
    let u = c.before in
    let s = u.before in
    rw (c.pick.ensures, c.pick-2.ensures)
    (fill_fits s.args.word _ _ u.unpack-counter.ensures s.args.w s.requires.0 s.requires.1 (eqb u.unpack-counter.result.ctr c.ones.result))

pub returns : goal.returns
unfolding occupancy_word
returns c =
    let u = c.before in
    let s = u.before in
    c.pack.ensures
    ∙ rw (c.pick.ensures, c.pick-2.ensures)
    (fill_is s.args.word _ _ u.unpack-counter.ensures s.args.w c.ones.result c.ones.ensures)
