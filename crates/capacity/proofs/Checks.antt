-- Checks 1 to 3 as facts, and the state's test put together from its parts.
use mathlib.Core.Path.{◌≡◌, refl, sym, ◌∙◌}
use mathlib.Core.Bool.{Bool, true, false, not, cond, ◌&&◌}
use mathlib.Core.List.{[], ◌∷◌}
use Prim.Native.Nat.{ℕ, ◌^◌, ◌<◌}
use borrow.Author.Tests.{eq-eqb}
use lib.Dec.{T, eqb, eqb→eq}
use lib.ListN.{get_or}
use Rattle.fields.specs.Layout.{named_bits}
use Rattle.fields.specs.Registers as reg
use Rattle.fields.proofs.Registers.{capacity_counter_kept}
use Rattle.tables.specs.Below.{all_below}
use Rattle.tables.proofs.Tests.{and_l, and_r, and_in, not_not, eqb_in, is_true}
use Rattle.tables.proofs.Laws.{every_below}
use Rattle.access.specs.Checks as access
use Rattle.access.specs.Checks.{◌gives◌, first}
use Rattle.access.proofs.Checks.{first_append, first_other, first_passes, none_holds}
use Rattle.allocation.specs.Allocation.{control_ok}
use Rattle.monitor.specs.Monitor.{mon_word, status_of, counter_ok, monitor_ok}
use Rattle.monitor.proofs.Forms.{named_all}
use Rattle.monitor.proofs.Counters.{counter_zero}
use Rattle.unit_tables.specs.View.{CountersOk}
use Rattle.capacity_model.specs.Rules.{Setup, setup_ok, mask_of}
use Rattle.capacity_model.specs.View.{Sized}
use Rattle.capacity_model.specs.Model.{State, allocation_ok, well_formed, lengths_ok, setup_checks, state_checks}
use Rattle.capacity_model.proofs.Setup.{ranges}
use Rattle.capacity_model.proofs.Steps.{Passing}
use Rattle.capacity.specs.Checked.{Passes, TablesTested}

-- ---- checks 1 and 2

pub sized : (su : Setup) (s : State) → T (lengths_ok su s) → Sized su s.alloc.masks s.monitor.counters s.monitor.events s.owners
unfolding lengths_ok
sized su s t = search (eqb→eq, and_l, and_r) depth 11

pub setup_passes : (su : Setup) (s : State) → T (setup_ok su) → Sized su s.alloc.masks s.monitor.counters s.monitor.events s.owners → 0 ≡ first (setup_checks su s) 0
unfolding access.setup_checks lengths_ok
setup_passes su s t z = let l : T (lengths_ok su s) = search (eqb_in, and_in) depth 11 in rw (is_true (setup_ok su) t, is_true (lengths_ok su s) l) refl

module _ (su : Setup) (s : State) (e : 0 ≡ first (setup_checks su s) 0) where
  pub setup_passed : T (setup_ok su)
  unfolding access.setup_checks
  setup_passed = not_not (setup_ok su) (none_holds 0 (setup_checks su s) 0 tt (sym e)).0.0

  pub lengths_passed : Sized su s.alloc.masks s.monitor.counters s.monitor.events s.owners
  unfolding access.setup_checks
  lengths_passed = sized su s (not_not (lengths_ok su s) (none_holds 0 (setup_checks su s) 0 tt (sym e)).0.1.0)

-- ---- check 3 after them

module _ (s : State) where
  state_first : first (state_checks s) 0 ≡ first (setup_checks s.setup s) (cond (not (well_formed s)) 3 0)
  unfolding access.state_checks
  state_first = first_append (setup_checks s.setup s) ((not (well_formed s) gives 3) ∷ []) 0

  pub state_failed : (n : ℕ) → 0 < n → n ≡ first (setup_checks s.setup s) 0 → n ≡ first (state_checks s) 0
  state_failed n h e = sym (state_first ∙ first_other (setup_checks s.setup s) n _ h (sym e))

  pub state_tested : 0 ≡ first (setup_checks s.setup s) 0 → (b : Bool) → b ≡ well_formed s → cond b 0 3 ≡ first (state_checks s) 0
  unfolding access.setup_checks
  state_tested e b q = sym (state_first ∙ first_passes (setup_checks s.setup s) _ tt e ∙ rw (← q) (turned b))
    where
      turned : (b : Bool) → ◌≡◌ {A = ℕ} (cond (not b) 3 0) (cond b 0 3)
      turned true = refl
      turned false = refl

  pub passing : 0 ≡ first (state_checks s) 0 → Passing s
  unfolding access.state_checks access.setup_checks
  passing e =
      let f = (none_holds 0 (state_checks s) 0 tt (sym e)).0 in
      record {
        setup = not_not (setup_ok s.setup) f.0;
        lengths = not_not (lengths_ok s.setup s) f.1.0;
        wellformed = not_not (well_formed s) f.1.1.0;
      }

  -- the state passes checks 1 to 3
  pub passes : 0 ≡ first (state_checks s) 0 → Passes s
  passes e =
      let p = passing e in
      record { ranges = ranges s.setup p.setup; sized = sized s.setup s p.lengths; wellformed = p.wellformed }

  and_one : (b : Bool) → (b && true) ≡ b
  and_one true = refl
  and_one false = refl

  -- every word below 2^64 has only named bits of a capacity counter
  value_test : s.monitor.value < 2 ^ 64 → eqb s.monitor.value (named_bits reg.capacity_counter s.monitor.value) ≡ true
  value_test h =
      let v = s.monitor.value in
      eq-eqb v (named_bits reg.capacity_counter v) (named_all reg.capacity_counter capacity_counter_kept v h)

  pub well_formed_is : {m k e o : Bool} → TablesTested s.setup s.alloc.masks s.monitor.counters s.monitor.events s.owners m k e o → s.monitor.value < 2 ^ 64 → (a b c : Bool)
      → a ≡ control_ok s.setup.na s.alloc.ctl → b ≡ eqb s.alloc.mask (mask_of s.setup s.alloc.mask)
      → c ≡ eqb s.monitor.ctl (mon_word s.setup.na s.monitor.ctl 0 (status_of s.monitor.ctl)) → (a && b && m && (c && k && e) && o) ≡ well_formed s
  unfolding well_formed allocation_ok monitor_ok
  well_formed_is t h a b c ea eb ec =
      let z = t.sized in
      rw (ea, eb, ec, t.masks_are, t.counters_are, t.events_are, t.owners_are, z.masks_long, z.counters_long, z.events_long, z.owners_long, value_test h, and_one) refl

-- ---- every counter is well formed; that of an MCID that is not there reads 0

pub counters_ok : (s : State) → Passes s → CountersOk s.setup.w s.monitor.counters
unfolding well_formed monitor_ok
counters_ok s p =
    let t = p.wellformed in
    let ok : ℕ → Bool = λ x. counter_ok reg.capacity_counter reg.capacity_ctr s.setup.w x in
    let all : T (all_below s.setup.nm (λ i. ok (get_or s.monitor.counters i 0))) = search (and_l, and_r) depth 10 in
    record { w_high = p.ranges.w_high; all = every_below ok s.monitor.counters s.setup.nm p.sized.counters_long (counter_zero reg.capacity_counter reg.capacity_ctr s.setup.w) all }
