use Rattle.monitor.proofs.Steps.{words_after}
use Rattle.monitor.proofs.mon_after.Goals as goal

pub returns : goal.returns
returns c =
    let e = c.effect_of-effect.ensures in
    words_after _ _ _ c.unpack_held-ctl.ensures _ _ _ _ _ _ c.control_word.ensures (cc e.reads_is) (cc e.configures_is) c.setting_word.ensures (cc e.configures_is)
