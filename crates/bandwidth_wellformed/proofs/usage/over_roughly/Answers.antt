use mathlib.Core.Path.{◌≡◌}
use native.Mathlib.Omega.{arith}
use lib.ListN.{length}
use Rattle.std.proofs.lemmas.Slice.Zip.{zip_turn, zip_end}
use Rattle.bandwidth_wellformed.specs.Bits.{blocks_at, over_at}
use Rattle.bandwidth_wellformed.proofs.Passes.{at_most_pair}
use Rattle.bandwidth_wellformed.proofs.usage.over_roughly.Goals as goal

pub loop-u-preserved : goal.loop-u-preserved
unfolding over_at blocks_at
loop-u-preserved c =
    let z = zip_turn c.args.used.now c.args.active.now c.loop-u.yielded _ _ c.next.new.self _ (cc) (cc) c.loop-u.yielded_by _ c.in-Some.is c.next.ensures.steps in
    at_most_pair _ _ _ _ _ (cc (z.2 0, z.3 0)) c.loop-u.invariant

pub returns : goal.returns
returns c =
    let z = zip_end c.args.used.now c.args.active.now c.loop-u.yielded _ _ c.next.new.self _ (cc) (cc) c.loop-u.yielded_by c.in-None.is c.next.ensures.steps in
    let e : length c.loop-u.yielded ≡ length c.args.used.now = omega (arith, z, c.requires.1) in
    rw e at c.loop-u.invariant
