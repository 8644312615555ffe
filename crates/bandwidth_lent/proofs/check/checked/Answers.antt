use mathlib.Core.Path.{sym}
use native.Mathlib.Omega.{arith}
use Rattle.std.proofs.lemmas.Result.{err_from_is_err_and}
use Rattle.bandwidth_lent.proofs.Steps.{refused_by}
use Rattle.bandwidth_lent.proofs.Checks.{held_ranges, rows_held, found_by}
use Rattle.bandwidth_lent.proofs.check.checked.Goals as goal

pub returns-in_err-given : goal.returns-in_err-given
returns-in_err-given c =
    let p = err_from_is_err_and c.from_residual.result c.from_residual.ensures.1 in
    rw (p.1, p.2) (λ d t. refused_by _ d t c.in_err-given.field-0.0 c.in_err-given.ensures.refusal)

pub overflow_cast-setup : goal.overflow_cast-setup
overflow_cast-setup c = let r = held_ranges _ _ c.in_ok-given.ensures.loaded (sym c.in_ok-given.ensures.refusal) in omega (arith, r.na_high)

pub overflow_cast-setup-2 : goal.overflow_cast-setup-2
overflow_cast-setup-2 c = let r = held_ranges _ _ c.in_ok-given.ensures.loaded (sym c.in_ok-given.ensures.refusal) in omega (arith, r.q_high)

pub sum_bytes-sums-requires : goal.sum_bytes-sums-requires
sum_bytes-sums-requires c = rows_held _ _ c.in_ok-given.ensures.loaded (sym c.in_ok-given.ensures.refusal)

pub overflow_cast-setup-3 : goal.overflow_cast-setup-3
overflow_cast-setup-3 c = let r = held_ranges _ _ c.in_ok-given.ensures.loaded (sym c.in_ok-given.ensures.refusal) in omega (arith, r.w_high)

pub counters_ok-k-requires : goal.counters_ok-k-requires
counters_ok-k-requires c = (held_ranges _ _ c.in_ok-given.ensures.loaded (sym c.in_ok-given.ensures.refusal)).w_high

pub overflow_cast-setup-4 : goal.overflow_cast-setup-4
overflow_cast-setup-4 c = let r = held_ranges _ _ c.in_ok-given.ensures.loaded (sym c.in_ok-given.ensures.refusal) in omega (arith, r.na_high)

pub events_ok-e-requires : goal.events_ok-e-requires
events_ok-e-requires c = (held_ranges _ _ c.in_ok-given.ensures.loaded (sym c.in_ok-given.ensures.refusal)).na_high

pub state_ok-requires : goal.state_ok-requires
state_ok-requires c = held_ranges _ _ c.in_ok-given.ensures.loaded (sym c.in_ok-given.ensures.refusal)

pub returns-in_err-totals : goal.returns-in_err-totals
returns-in_err-totals c =
    let p = err_from_is_err_and c.from_residual-in_err-totals.result c.from_residual-in_err-totals.ensures.1 in
    rw (p.1, p.2)
    (found_by _ _ c.in_ok-given.ensures.loaded (sym c.in_ok-given.ensures.refusal) c.tables_by-tables.result c.state_ok.result
    (λ i. (c.type_inv.«record» i).fits) (λ i. (c.type_inv.active i).fits) (λ i. (c.type_inv.configured i).fits) (λ i. (c.type_inv.used i).fits)
    (λ i. (c.type_inv.counters i).fits) (λ i. (c.type_inv.events i).fits) (λ i. (c.type_inv.waiters i).fits)
    c.sum_bytes-sums.ensures c.counters_ok-k.ensures c.events_ok-e.ensures c.waiters_ok-w.ensures c.tables_by-tables.ensures c.state_ok.ensures c.in_err-totals.ensures.value)

pub returns : goal.returns
returns c =
    found_by _ _ c.in_ok-given.ensures.loaded (sym c.in_ok-given.ensures.refusal) c.tables_by-tables.result c.state_ok.result
    (λ i. (c.type_inv.«record» i).fits) (λ i. (c.type_inv.active i).fits) (λ i. (c.type_inv.configured i).fits) (λ i. (c.type_inv.used i).fits)
    (λ i. (c.type_inv.counters i).fits) (λ i. (c.type_inv.events i).fits) (λ i. (c.type_inv.waiters i).fits)
    c.sum_bytes-sums.ensures c.counters_ok-k.ensures c.events_ok-e.ensures c.waiters_ok-w.ensures c.tables_by-tables.ensures c.state_ok.ensures c.in_ok-totals.ensures.value
