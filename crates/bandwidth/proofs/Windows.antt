-- A window end, from the turns of all RCIDs.
use mathlib.Core.Path.{◌≡◌, refl, sym, ap, ◌∙◌}
use mathlib.Core.List.{List}
use Prim.Native.Nat.{ℕ, ◌-◌, ◌*◌}
use native.Mathlib.Nat.{le_refl}
use lib.ListN.{replicate}
use Rattle.tables.proofs.Tests.{and_l, and_r}
use Rattle.monitor.specs.Monitor.{Monitor}
use Rattle.bandwidth_model.specs.Rules.{Setup, pairs, pool_of}
use Rattle.bandwidth_model.specs.Waiters.{weights_below}
use Rattle.bandwidth_model.specs.Model.{State, well_formed, monitor_served, after_window}
use Rattle.bandwidth_model.proofs.Waiters.{served_ctl, served_value, served_events}
use Rattle.bandwidth_grants.specs.View.{usage}
use Rattle.bandwidth_waiters.specs.Turns.{Tables, tables, turns, Opens}
use Rattle.bandwidth_waiters.proofs.Windows.{Went, went}
use Rattle.bandwidth_wellformed.specs.declared.Totals.{Totals}
use Rattle.bandwidth.specs.Checked.{Passes}

-- what is counted, with all else of the monitor as it was
monitor_is : (su : Setup) (table waiters : List ℕ) (m : Monitor) (n : ℕ)
    → record { ctl = m.ctl; value = m.value; counters = (monitor_served su table waiters m n).counters; events = m.events } ≡ monitor_served su table waiters m n
monitor_is su table waiters m n =
    let k = monitor_served su table waiters m n in
    ap (λ (x : ℕ). record { ctl = x; value = m.value; counters = k.counters; events = m.events }) (sym (served_ctl su table waiters m n))
    ∙ ap (λ (x : ℕ). record { ctl = k.ctl; value = x; counters = k.counters; events = m.events }) (sym (served_value su table waiters m n))
    ∙ ap (λ (x : List ℕ). record { ctl = k.ctl; value = k.value; counters = k.counters; events = x }) (sym (served_events su table waiters m n))

module _ {s : State} {t : Totals} (p : Passes s t) where
  abbrev su : Setup
  su = s.setup

  abbrev table : List ℕ
  table = s.alloc.configured

  -- the configured table and the waiters passed their checks
  pub window_opens : Opens su table s.waiters
  unfolding well_formed
  window_opens =
      let w = p.wellformed in
      record {
        ranges = p.ranges;
        active_long = p.sized.configured_long;
        active_ok = search (and_l, and_r) depth 8;
        waiters_long = p.sized.waiters_long;
        waiters_pass = search (and_l, and_r) depth 8;
      }

  -- the whole pool, from what the configured table reserves
  pub window_size : {left : ℕ} → left ≡ su.nbwblks - t.configured → left * su.q ≡ pool_of su table
  unfolding pool_of
  window_size e = rw (e, p.totals.configured) refl

  -- the state after a window's service
  abbrev served : List ℕ → Tables → State
  served active x = record {
    setup = su;
    alloc = s.alloc;
    usage = usage active x.used x.pool;
    monitor = record { ctl = s.monitor.ctl; value = s.monitor.value; counters = x.counters; events = s.monitor.events };
    waiters = x.waiters;
  }

  pub window_went : {active : List ℕ} {x : Tables} → active ≡ table → Went window_opens s.monitor su.nr x → served active x ≡ after_window s
  unfolding after_window
  window_went {x = x} e w =
      rw (e, w.counters_are, w.waiters_are, monitor_is su table s.waiters s.monitor su.nr, w.usage_is) refl

  -- of all turns
  pub window_served : {active used : List ℕ} {x : Tables} {size weights : ℕ} → active ≡ table → used ≡ replicate (pairs su) 0 → size ≡ pool_of su table
      → weights ≡ weights_below su table s.waiters su.nr
      → x ≡ turns su table s.monitor.events size weights (tables used 0 s.monitor.counters s.waiters) su.nr → served active x ≡ after_window s
  window_served e u z w y = window_went e (rw (y, u, z, w) (went window_opens s.monitor su.nr (le_refl su.nr)))
