use Rattle.std.proofs.Common.{rules}
use Rattle.capacity.specs.View.{state}
use Rattle.capacity.proofs.Checks.{well_formed_is}
use Rattle.capacity.proofs.Record.judge.Goals as goal

pub returns : goal.returns
returns c =
    λ ms ns es os t.
    let s = c.before in
    well_formed_is (state s.args.self.now ms ns es os) t (search rules) _ _ _ c.control_ok.ensures (rw (← c.mask_of.ensures)) c.control_ok-2.ensures
