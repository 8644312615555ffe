use Rattle.codes.specs.declared.MonOp.TheVariants.{ReservedZero, ConfigEvent, ReadCounter, Reserved, Custom}
use Rattle.monitor.proofs.Rows.{effect_by, no_effect}
use Rattle.monitor.proofs.status.effect_of.Goals as goal

pub returns-in-ReservedZero : goal.returns-in-ReservedZero
returns-in-ReservedZero c = effect_by _ _ c.if-done.true ReservedZero c.in-ReservedZero.ensures

pub returns-in-ConfigEvent : goal.returns-in-ConfigEvent
returns-in-ConfigEvent c = effect_by _ _ c.if-done.true ConfigEvent c.in-ConfigEvent.ensures

pub returns-in-ReadCounter : goal.returns-in-ReadCounter
returns-in-ReadCounter c = effect_by _ _ c.if-done.true ReadCounter c.in-ReadCounter.ensures

pub returns-in-Reserved : goal.returns-in-Reserved
returns-in-Reserved c = effect_by _ _ c.if-done.true Reserved c.in-Reserved.ensures

pub returns-in-Custom : goal.returns-in-Custom
returns-in-Custom c = effect_by _ _ c.if-done.true Custom c.in-Custom.ensures

pub returns-else-done : goal.returns-else-done
returns-else-done c = no_effect _ _ c.if-done.false
