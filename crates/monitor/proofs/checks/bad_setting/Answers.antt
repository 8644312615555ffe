use Rattle.monitor.proofs.Forms.{setting_test}
use Rattle.monitor.proofs.checks.bad_setting.Goals as goal

pub returns : goal.returns
returns c =
    let e = c.before in
    let a = e.args in
    cc (setting_test a.na a.resource a.s e.requires e.ranges.s.fits c.pick-end.result c.pick-end.ensures _ e.counts_event-counts.ensures)
