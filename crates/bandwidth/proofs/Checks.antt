-- Checks 1 to 3 as facts, both ways.
use mathlib.Core.Path.{◌≡◌, subst}
use mathlib.Core.Bool.{Bool, true, false, not, ◌&&◌}
use Prim.Native.Nat.{ℕ, ◌-◌, ◌*◌, ◌<◌, ◌^◌}
use lib.Dec.{T, leb, eqb, eqb→eq}
use lib.ListN.{get_or}
use Rattle.fields.specs.Layout.{named_bits}
use Rattle.fields.specs.Registers as reg
use Rattle.fields.proofs.Registers.{bandwidth_counter_kept}
use Rattle.std.specs.Bool.{then_some}
use Rattle.std.specs.Prelude.{Option, Some, None, ok_or}
use Rattle.access.specs.declared.Refusal.TheVariants as Refused
use Rattle.access.proofs.Checks.{check_3}
use Rattle.tables.specs.Below.{all_below}
use Rattle.tables.proofs.Tests.{and_l, and_r, and_in, not_in, not_both, eqb_in, same_test}
use Rattle.monitor.specs.Monitor.{mon_word, status_of, counter_ok, setting_ok, monitor_ok}
use Rattle.codes.specs.declared.Resource.TheVariants.{Bandwidth}
use Rattle.monitor.proofs.Forms.{named_all}
use Rattle.bandwidth_model.specs.Rules.{Setup, setup_ok, pairs, reserved, total, pool_of}
use Rattle.bandwidth_model.specs.View.{Sized}
use Rattle.bandwidth_model.specs.Model.{State, table_ok, usage_ok, waiters_ok, registers_ok, lengths_ok, well_formed}
use Rattle.bandwidth_model.specs.Waiters.{waiter_ok}
use Rattle.bandwidth_model.proofs.Setup.{setup_ok_lem, ranges}
use Rattle.bandwidth_model.proofs.Steps.{Passing}
use Rattle.bandwidth_model.proofs.Settings.{TableFacts, table_facts}
use Rattle.bandwidth_wellformed.specs.Tables.{tables_ok, Totalled}
use Rattle.bandwidth_wellformed.specs.declared.Totals.{Totals}
use Rattle.bandwidth.specs.Checked.{Passes, StateChecked, Checked}

-- ---- check 2

pub sized : (su : Setup) (s : State) → T (lengths_ok su s) → Sized su s.usage.active s.alloc.configured s.usage.used s.monitor.counters s.monitor.events s.waiters
unfolding lengths_ok
sized su s t = search (eqb→eq, and_l, and_r) depth 10

pub lengths_ok_lem : (su : Setup) (s : State) → Sized su s.usage.active s.alloc.configured s.usage.used s.monitor.counters s.monitor.events s.waiters → T (lengths_ok su s)
unfolding lengths_ok
lengths_ok_lem su s z = search (eqb_in, and_in) depth 10

pub passing : {s : State} {t : Totals} → Passes s t → Passing s
passing {s} p = record { setup = setup_ok_lem s.setup p.ranges; lengths = lengths_ok_lem s.setup s p.sized; wellformed = p.wellformed }

-- ---- check 3

-- the same parts in another order, where the tables pass
by_parts : (p a b u k e w v r c : Bool) → T v → T (a && b && u && k && e && w)
    → (p && (r && c)) ≡ (a && b && (u && p) && r && (c && v && k && e) && w)
by_parts p a b u k e w v r c tv whole =
    let ta : T a = search (and_l, and_r) depth 8 in
    let tb : T b = search (and_l, and_r) depth 8 in
    let tu : T u = search (and_l, and_r) depth 8 in
    let tk : T k = search (and_l, and_r) depth 8 in
    let te : T e = search (and_l, and_r) depth 8 in
    let tw : T w = search (and_l, and_r) depth 8 in
    same_test (p && (r && c)) (a && b && (u && p) && r && (c && v && k && e) && w)
    (λ t. let tp : T p = search (and_l, and_r) depth 6 in
    let tr : T r = search (and_l, and_r) depth 6 in
    let tc : T c = search (and_l, and_r) depth 6 in
    search and_in depth 12)
    (λ t. let tp : T p = search (and_l, and_r) depth 8 in
    let tr : T r = search (and_l, and_r) depth 8 in
    let tc : T c = search (and_l, and_r) depth 8 in
    search and_in depth 6)

module _ (s : State) where
  abbrev tables : Bool
  tables = tables_ok s.setup s.usage.active s.alloc.configured s.usage.used s.monitor.counters s.monitor.events s.waiters

  -- where the tables do not pass, check 3 fails
  pub not_formed : T (not tables) → T (not (well_formed s))
  unfolding tables_ok well_formed usage_ok monitor_ok waiters_ok
  not_formed n = not_in (well_formed s) (λ w. not_both tables (search (and_l, and_r, and_in) depth 12) n)

  -- the tables, the pool, the registers and mon_ctl, put together
  pub well_formed_is : {act left : ℕ} {regs ctl : Bool} → s.monitor.value < 2 ^ 64 → T tables → act ≡ total s.usage.active
      → left ≡ s.setup.nbwblks - act → regs ≡ registers_ok s.setup s.alloc → ctl ≡ eqb s.monitor.ctl (mon_word s.setup.na s.monitor.ctl 0 (status_of s.monitor.ctl))
      → (leb s.usage.pool (left * s.setup.q) && (regs && ctl)) ≡ well_formed s
  unfolding tables_ok well_formed usage_ok monitor_ok waiters_ok pool_of
  well_formed_is v e f l r c =
      let su = s.setup in
      let u = s.usage in
      let m = s.monitor in
      let us = all_below (pairs su) (λ i. leb (get_or u.used i 0) (reserved (get_or u.active i 0) * su.q)) in
      let ks = all_below su.nm (λ i. counter_ok reg.bandwidth_counter reg.bandwidth_ctr su.w (get_or m.counters i 0)) in
      let es = all_below su.nm (λ i. setting_ok su.na Bandwidth (get_or m.events i 0)) in
      let ws = all_below su.nr (λ i. waiter_ok su (get_or s.waiters i 0)) in
      let vk = eqb m.value (named_bits reg.bandwidth_counter m.value) in
      let vt : T vk = eqb_in m.value (named_bits reg.bandwidth_counter m.value) (named_all reg.bandwidth_counter bandwidth_counter_kept m.value v) in
      rw (l, f, r, c)
      (by_parts (leb u.pool ((su.nbwblks - total u.active) * su.q)) (table_ok su u.active) (table_ok su s.alloc.configured) us ks es ws vk (registers_ok su s.alloc)
      (eqb m.ctl (mon_word su.na m.ctl 0 (status_of m.ctl))) vt e)

-- the totals, exactly where check 3 passes
pub state_found : (s : State) (b : Bool) (t : Totals) → b ≡ well_formed s → Totalled s.usage.active s.alloc.configured t → StateChecked s (then_some b t)
state_found s true t e h = (subst T e tt, h)
state_found s false t e h = subst (λ (v : Bool). T (not v)) e tt

-- checks 1 to 3, by what check 3 finds
pub checked_by : (s : State) (r : Option Totals) → T (setup_ok s.setup) → T (lengths_ok s.setup s) → StateChecked s r → Checked s (ok_or r Refused.State)
checked_by s (Some t) a b h = record { ranges = ranges s.setup a; sized = sized s.setup s b; wellformed = h.0; totals = h.1 }
checked_by s None a b h = check_3 _ _ _ a b h

module _ {s : State} {t : Totals} (p : Passes s t) where
  pub active_facts : TableFacts s.setup s.usage.active
  unfolding well_formed
  active_facts =
      let w = p.wellformed in
      table_facts s.setup s.usage.active p.sized.active_long (search (and_l, and_r) depth 8)

  pub usage_formed : T (usage_ok s.setup s.usage)
  unfolding well_formed
  usage_formed = let w = p.wellformed in search (and_l, and_r) depth 8
