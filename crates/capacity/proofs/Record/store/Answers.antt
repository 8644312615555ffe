use Rattle.capacity.specs.View.{state}
use Rattle.capacity.proofs.Calls.{alloc_stored, mask_stored, mon_stored, none_stored}
use Rattle.capacity.proofs.Record.store.Goals as goal

pub returns-in-24 : goal.returns-in-24
returns-in-24 c = λ ms ns es os n. alloc_stored (state c.args.self ms ns es os) _ _ _ _ _ _ n _ c.in-24.is c.alloc_after-done.ensures

pub returns-in-32 : goal.returns-in-32
returns-in-32 c = λ ms ns es os n. mask_stored (state c.args.self ms ns es os) _ _ _ _ _ _ n _ _ c.in-32.is c.replaced-word.ensures c.mask_of.ensures

pub returns-in-8 : goal.returns-in-8
returns-in-8 c = λ ms ns es os n. mon_stored (state c.args.self ms ns es os) _ _ _ _ _ _ n _ _ c.in-8.is c.mon_status-status.ensures c.mon_after-done.ensures

pub returns-in_default : goal.returns-in_default
returns-in_default c =
    λ ms ns es os n.
    let r = c.in_default.in_default-own.rest in
    let s = c.before in
    none_stored (state s.args.self ms ns es os) _ _ _ _ _ _ n s.requires.1 r.0.0.1 r.0.1 r.1
