use mathlib.Core.Path.{sym}
use Rattle.bandwidth_wellformed.proofs.Passes.{light_right, single_right}
use Rattle.bandwidth_wellformed.proofs.rows.rows_ok.Goals as goal

pub returns-then-any-eq0 : goal.returns-then-any-eq0
returns-then-any-eq0 c =
    sym (light_right c.args.na c.args.rows c.args.t.now c.args.any (rw c.requires.0.long c.requires.1) c.if-any-eq0.true)

pub returns-then-any-eq0-2 : goal.returns-then-any-eq0-2
returns-then-any-eq0-2 c =
    rw c.if-any-eq0-2.true
    (sym (single_right c.args.na c.args.rows c.args.t.now c.args.any (rw c.requires.0.long c.requires.1) c.in-1.is c.if-any-eq0-2.true))
