use Rattle.codes.specs.declared.AllocOp.TheVariants.{ReservedZero, ConfigLimit, ReadLimit, FlushRcid, Reserved, Custom}
use Rattle.allocation.proofs.Status.{effect_by, no_effect}
use Rattle.allocation.proofs.effect_of.Goals as goal

pub returns-in-ReservedZero : goal.returns-in-ReservedZero
returns-in-ReservedZero c = effect_by _ _ _ c.if-done.true ReservedZero c.in-ReservedZero.ensures

pub returns-in-ConfigLimit : goal.returns-in-ConfigLimit
returns-in-ConfigLimit c = effect_by _ _ _ c.if-done.true ConfigLimit c.in-ConfigLimit.ensures

pub returns-in-ReadLimit : goal.returns-in-ReadLimit
returns-in-ReadLimit c = effect_by _ _ _ c.if-done.true ReadLimit c.in-ReadLimit.ensures

pub returns-in-FlushRcid : goal.returns-in-FlushRcid
returns-in-FlushRcid c = effect_by _ _ _ c.if-done.true FlushRcid c.in-FlushRcid.ensures

pub returns-in-Reserved : goal.returns-in-Reserved
returns-in-Reserved c = effect_by _ _ _ c.if-done.true Reserved c.in-Reserved.ensures

pub returns-in-Custom : goal.returns-in-Custom
returns-in-Custom c = effect_by _ _ _ c.if-done.true Custom c.in-Custom.ensures

pub returns-else-done : goal.returns-else-done
returns-else-done c = no_effect _ _ _ c.if-done.false
