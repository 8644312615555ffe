use mathlib.Core.Path.{◌≡◌, refl}
use native.Mathlib.Omega.{arith}
use lib.ListN.{length}
use Rattle.stream.proofs.Laws.{finished_none, finished_line, some_held}
use Rattle.std.proofs.Common.{rules}
use Rattle.stream.proofs.State.finish.Goals as goal

pub returns : goal.returns
returns c =
    let s = c.args.self in
    let g = c.well_formed in
    let long : length s.line ≡ 81 = search rules in
    let f = c.feed.ensures in
    record { answers = finished_line (some_held s.len s.line long c.if-self-eq0.false) f.answers; lent = f.lent }

pub returns-then-self-eq0-clause-answers : goal.returns-then-self-eq0-clause-answers
returns-then-self-eq0-clause-answers c =
    let none : c.args.self.len ≡ 0 = omega (arith, c.if-self-eq0.true) in
    finished_none (rw none refl)
