use mathlib.Core.Path.{◌≡◌, sym, ap, ◌∙◌}
use Prim.Native.Nat.{ℕ}
use native.Mathlib.Omega.{arith}
use lib.ListN.{length, get_or}
use Rattle.tables.specs.Below.{all_below}
use Rattle.tables.proofs.Laws.{all_none}
use Rattle.words.specs.Words.{table_of}
use Rattle.words.proofs.Parts.{entries}
use Rattle.monitor.specs.Monitor.{setting_ok}
use Rattle.monitor_bytes.proofs.Parts.{part_joined}
use Rattle.monitor_bytes.proofs.events_ok.Goals as goal

pub loop-i-init : goal.loop-i-init
loop-i-init c = (omega arith, sym (all_none _))

pub loop-i-preserved : goal.loop-i-preserved
loop-i-preserved c =
    let a = c.args in
    let loop = c.loop-i in
    (omega (arith, c.min-n.ensures), part_joined (setting_ok a.na a.resource) (table_of 2 a.t.now) loop.i _ _ _ loop.invariant.1 c.part_ok-ok.ensures)

pub returns : goal.returns
returns c =
    let a = c.args in
    let t = table_of 2 a.t.now in
    let e : c.loop-i.i ≡ length t = omega (arith, entries 2 a.t.now) in
    c.loop-i.invariant.1 ∙ ap (λ (n : ℕ). all_below n (λ i. setting_ok a.na a.resource (get_or t i 0))) e
