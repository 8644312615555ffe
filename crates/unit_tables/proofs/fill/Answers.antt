use mathlib.Core.Path.{◌∙◌}
use Rattle.fields.specs.Registers as reg
use Rattle.monitor.proofs.Counters.{counter_lt}
use Rattle.unit_tables.proofs.Steps.{refilled_is, emptied_ok}
use Rattle.unit_tables.proofs.fill.Goals as goal

pub count_filled-requires : goal.count_filled-requires
count_filled-requires c =
    let counted = c.before in
    let s = counted.before in
    let a = s.args in (
      s.requires.1.w_high,
      rw counted.count_emptied.ensures (counter_lt reg.capacity_counter reg.capacity_ctr a.w _ ((emptied_ok a.w a.counters.now a.events.now _ s.requires.1).all a.mcid)),
    )

pub returns : goal.returns
returns c =
    let filled = c.before in
    let emptied = filled.before in
    let a = emptied.args in (
      c.put.ensures ∙ rw c.owner_word.ensures,
      rw (← emptied.word-old.ensures) (refilled_is a.w a.counters.now a.events.now _ _ _ _ _ emptied.count_emptied.ensures filled.count_filled.ensures),
    )
