use mathlib.Core.Path.{◌≡◌, ◌∙◌}
use lib.ListN.{length, get_or}
use Rattle.monitor.specs.Monitor.{counter_ctr}
use Rattle.monitor.proofs.Forms.{union_test}
use Rattle.monitor.proofs.checks.union_ok.Goals as goal
use Rattle.monitor.proofs.checks.union_ok.Goals.{in-Bandwidth, in-Capacity}

pub returns : goal.returns
returns c =
    let e : c.match-resource.width ≡ (counter_ctr c.args.resource).width =
    elim c.match-resource.branch [ in-Bandwidth w ↦ rw w.in-Bandwidth.is w.width-is | in-Capacity w ↦ rw w.in-Capacity.is w.width-is ] in
    λ t u. c.all_below.ensures (length t) (λ i. get_or t i 0) u.is ∙ union_test c.args.resource _ e c.args.w (length t) (λ i. get_or t i 0) u.fits
