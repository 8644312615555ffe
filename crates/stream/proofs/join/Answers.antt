use mathlib.Core.Path.{◌≡◌, refl, ◌∙◌}
use native.Mathlib.Omega.{arith}
use lib.ListN.{length, take}
use lib.Seq.{length-take-le}
use Rattle.stream.proofs.Laws.{joined}
use Rattle.std.proofs.Common.{rules}
use Rattle.stream.proofs.join.Goals as goal

pub returns-then-n-gt0 : goal.returns-then-n-gt0
returns-then-n-gt0 c =
    let a = c.args in
    let full : length (take a.n a.line.now) ≡ a.n = length-take-le _ _ (omega arith) in
    record {
      is = c.hold.ensures.is ∙ joined (take a.n a.line.now) a.part.now (λ z. omega arith);
      rest = c.hold.ensures.rest;
      most = c.hold.ensures.most;
      long = c.hold.ensures.long;
    }

pub returns-else-n-gt0 : goal.returns-else-n-gt0
returns-else-n-gt0 c =
    let z : c.args.n ≡ 0 = omega arith in
    record { is = rw z refl; rest = refl; most = search rules; long = refl }
