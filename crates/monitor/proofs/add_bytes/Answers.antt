use mathlib.Core.Path.{◌∙◌}
use native.Mathlib.Omega.{arith}
use lib.Pow.{pow_mono}
use Rattle.monitor.proofs.Steps.{added_fits, added_is}
use Rattle.monitor.proofs.add_bytes.Goals as goal

pub overflow_add-end : goal.overflow_add-end
overflow_add-end c = omega (arith, pow_mono c.requires.0)

pub pack-requires : goal.pack-requires
pack-requires c =
    let n = c.before in
    let u = n.before in
    added_fits u.args.w u.args.bytes _ u.unpack-counter.result u.unpack-counter.ensures u.requires.0 _ _ _ n.ones-end.ensures
    c.pick.ensures c.wrapped.ensures

pub returns : goal.returns
returns c =
    let n = c.before in
    let u = n.before in
    c.pack.ensures
    ∙ added_is u.args.w u.args.bytes _ u.unpack-counter.result u.unpack-counter.ensures u.requires.0 _ _ _ n.ones-end.ensures
    c.pick.ensures c.wrapped.ensures
