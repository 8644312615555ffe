use mathlib.Core.Path.{sym}
use native.Mathlib.Nat.{mul-le-mul}
use native.Mathlib.Omega.{arith}
use Rattle.bandwidth_model.specs.Rules.{pairs}
use Rattle.bandwidth_wellformed.proofs.tables_ok.Goals as goal

pub sum_tables-sums-requires : goal.sum_tables-sums-requires
unfolding pairs
sum_tables-sums-requires c =
    let p = c.requires in
    record {
      na_low = p.0.na_low;
      na_high = p.0.na_high;
      q_low = p.0.q_low;
      q_high = p.0.q_high;
      active_long = sym p.1.active_long;
      configured_long = sym p.1.configured_long;
      used_long = sym p.1.used_long;
      few = mul-le-mul p.0.nr_high p.0.na_high;
    }

pub overflow_cast-setup-4 : goal.overflow_cast-setup-4
overflow_cast-setup-4 c = omega (arith, c.requires.0.na_high)

pub events_ok-e-requires : goal.events_ok-e-requires
events_ok-e-requires c = c.requires.0.na_high

pub returns : goal.returns
returns c =
    c.tables_by.ensures _ _ _ _ _ _
    (record {
      sized = c.requires.1;
      active_fits = λ i. (c.type_inv.active i).fits;
      configured_fits = λ i. (c.type_inv.configured i).fits;
      summed = c.sum_tables-sums.ensures;
      counters_are = c.counters_ok-k.ensures;
      events_are = c.events_ok-e.ensures;
      waiters_are = c.waiters_ok-w.ensures;
    })
