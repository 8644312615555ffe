use mathlib.Core.Path.{sym, ◌∙◌}
use Prim.Native.Nat.{◌≤◌, ◌<◌}
use native.Mathlib.Omega.{arith}
use lib.ListN.{length}
use Rattle.unit_tables.proofs.Flushing.{owners_none, owner_flushed, owners_all, counters_none, counters_next, counters_all}
use Rattle.unit_tables.proofs.flush.Goals as goal

pub loop-owner-init : goal.loop-owner-init
loop-owner-init c = record { owners_are = sym (owners_none _ _); counters_are = sym (counters_none _ _ _ _) }

pub loop-owner-preserved : goal.loop-owner-preserved
loop-owner-preserved c =
    let l = c.loop-owner in
    let a = c.args in
    let h : l.owner-index < length a.owners.now = omega arith in
    record {
      owners_are = rw (c.flush_unit.ensures.0, l.invariant.owners_are) (owner_flushed a.rcid a.owners.now l.owner-index h);
      counters_are = rw (c.flush_unit.ensures.1, l.invariant.owners_are, l.invariant.counters_are) (counters_next a.rcid a.owners.now l.owner-index h a.events.now a.counters.now);
    }

pub returns : goal.returns
returns c =
    let l = c.loop-owner in
    let e : length c.args.owners.now ≤ l.owner-index = omega arith in
    (l.invariant.owners_are ∙ owners_all _ _ _ e, l.invariant.counters_are ∙ counters_all _ _ _ _ _ e)
