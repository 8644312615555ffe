use mathlib.Core.Path.{◌≡◌, refl, sym, ◌∙◌}
use Prim.Native.Nat.{◌≤◌, ◌<◌}
use native.Mathlib.Omega.{arith}
use Rattle.std.proofs.Common.{rules}
use lib.Dec.{lit<}
use lib.ListN.{length}
use Rattle.words.specs.Words.{table_of}
use Rattle.words.proofs.Parts.{entries}
use Rattle.words.proofs.Held.{left_held}
use Rattle.unit_tables.proofs.Flushing.{owners_none, owners_next, owners_all, counters_none, counters_next, counters_all}
use Rattle.unit_bytes.proofs.flush.Goals as goal

pub loop-i-init : goal.loop-i-init
loop-i-init c = record {
  within = omega arith;
  whole = sym (entries 4 _);
  owners_long = refl;
  counters_long = refl;
  owners_fit = λ j. (c.type_inv.owners j).fits;
  counters_fit = λ j. (c.type_inv.counters j).fits;
  owners_are = sym (owners_none _ _);
  counters_are = sym (counters_none _ _ _ _);
}

pub loop-i-preserved : goal.loop-i-preserved
loop-i-preserved c =
    let p = c.before in
    let l = p.loop-i in
    let a = p.args in
    let owners = table_of 4 a.owners.now in
    let h : l.i < length owners = omega (arith, l.invariant.whole) in
    let owners_long : length p.flush_unit.new.owners ≡ length l.owners = search rules in
    let counters_long : length p.flush_unit.new.counters ≡ length l.counters = search rules in
    record {
      within = omega arith;
      whole = l.invariant.whole;
      owners_long = owners_long ∙ l.invariant.owners_long;
      counters_long = counters_long ∙ l.invariant.counters_long;
      owners_fit = λ j. (c.type_inv.owners j).fits;
      counters_fit = λ j. (c.type_inv.counters j).fits;
      owners_are = rw (p.flush_unit.ensures.0, l.invariant.owners_are) (owners_next a.rcid owners l.i h);
      counters_are =
          rw (p.flush_unit.ensures.1, l.invariant.owners_are, l.invariant.counters_are) (counters_next a.rcid owners l.i h (table_of 2 a.events.now) (table_of 8 a.counters.now));
    }

pub shape_of-owners : goal.shape_of-owners
shape_of-owners c = c.loop-i.invariant.owners_long

pub shape_of-counters : goal.shape_of-counters
shape_of-counters c = c.loop-i.invariant.counters_long

pub returns : goal.returns
returns c =
    λ os ns es ho hn he.
    let l = c.loop-i in
    let a = c.args in
    let e : length (table_of 4 a.owners.now) ≤ l.i = omega (arith, l.invariant.whole) in (
      left_held 4 (lit< tt) a.owners.now os _ _ ho l.invariant.owners_long l.invariant.owners_fit (rw ho.words_are (l.invariant.owners_are ∙ owners_all _ _ _ e)),
      left_held 8 (lit< tt) a.counters.now ns _ _ hn l.invariant.counters_long l.invariant.counters_fit
          (rw (ho.words_are, hn.words_are, he.words_are) (l.invariant.counters_are ∙ counters_all _ _ _ _ _ e)),
    )
