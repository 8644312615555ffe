-- Check 3 on bytes, by the record and the sums of the tables' words.
use Rattle.std.specs.Prelude.{Option, Some, None, Result, Ok, Err, ok_or}
use mathlib.Core.Path.{◌≡◌, refl, sym, ap, subst}
use mathlib.Core.Bool.{Bool, not}
use mathlib.Core.List.{List}
use Prim.Native.Nat.{ℕ, ◌*◌, ◌<◌}
use native.Mathlib.Nat.{mul-le-mul}
use native.Mathlib.Omega.{arith}
use lib.Dec.{T, lit<}
use lib.ListN.{length, get_or}
use Rattle.fields.specs.Registers as reg
use Rattle.tables.specs.Below.{all_below}
use Rattle.words.specs.Words.{words_of, table_of}
use Rattle.words.proofs.Held.{held}
use Rattle.words.proofs.Parts.{table_held, table_below}
use Rattle.access.proofs.Checks.{check_3}
use Rattle.access.specs.Refusals.{number_of}
use Rattle.access.specs.declared.Refusal.{Refusal}
use Rattle.access.specs.declared.Refusal.TheVariants as why
use Rattle.monitor.specs.Monitor.{counter_ok, setting_ok}
use Rattle.codes.specs.declared.Resource.TheVariants.{Bandwidth}
use Rattle.replies.specs.Replies.{refusal}
use Rattle.bandwidth_setup.specs.View.{setup_of}
use Rattle.bandwidth_wellformed.specs.Tables.{TablesChecked, Rows, Summed, SummedTables}
use Rattle.bandwidth_wellformed.specs.declared.Totals.{Totals}
use Rattle.bandwidth_wellformed.specs.declared.settings.Sums.{Sums}
use Rattle.bandwidth_model.specs.Rules.{Setup, setup_ok, pairs}
use Rattle.bandwidth_model.specs.Calls.{Call, refused}
use Rattle.bandwidth_model.specs.Claim.{is_reset}
use Rattle.bandwidth_model.specs.View.{Ranges}
use Rattle.bandwidth_model.specs.Waiters.{waiter_ok}
use Rattle.bandwidth_model.specs.Model.{State, lengths_ok, well_formed}
use Rattle.bandwidth_model.proofs.Setup.{setup_ok_lem}
use Rattle.bandwidth.specs.declared.Record.{Record}
use Rattle.bandwidth.specs.View.{state, outcome}
use Rattle.bandwidth.specs.Checked.{StateChecked}
use Rattle.bandwidth.proofs.Checks.{lengths_ok_lem}
use Rattle.bandwidth.proofs.Calls.{call_failed}
use Rattle.bandwidth_lent.specs.Bytes.{Lent, state_of, pointers, byte_refusal, step_bytes}
use Rattle.bandwidth_lent.specs.View.{words_in, state_in, Long, Words, Passing, PartIn}
use Rattle.bandwidth_lent.proofs.Lengths.{long, in_range, words_sized}
use Rattle.bandwidth_lent.proofs.Steps.{state_held, answered}

-- what owning a slice of bytes tells
abbrev Bytes : List ℕ → Type 0
Bytes bs = (i : ℕ) → get_or bs i 0 < 256

module _ (l : Lent) (r : Record) (w : words_in r ≡ words_of 8 12 l.«record») (z : byte_refusal (state_of l).setup l ≡ 0) where
  abbrev su : Setup
  su = setup_of r.setup

  setup_is : su ≡ (state_of l).setup
  setup_is = ap (λ (s : State). s.setup) (state_held l r w)

  pub held_ranges : Ranges su
  held_ranges = rw setup_is (in_range (state_of l).setup l z)

  pub held_long : Long su l
  held_long = rw setup_is (long (state_of l).setup l z)

  -- the rows of the tables
  pub rows_held : PartIn l.active l.configured l.used 0 (su.nr * su.na) × Rows su.na su.q su.nr (table_of 4 l.active) (table_of 4 l.configured) (table_of 4 l.used)
  unfolding pairs
  rows_held =
      let g = held_long.tables in
      let s = words_sized su l held_long in
      let n = held_ranges in (
        record { active_in = omega (arith, g.active_long); configured_in = omega (arith, g.configured_long); used_in = omega (arith, g.used_long) },
        record {
          na_low = n.na_low;
          na_high = n.na_high;
          q_low = n.q_low;
          q_high = n.q_high;
          active_long = sym s.active_long;
          configured_long = sym s.configured_long;
          used_long = sym s.used_long;
          few = mul-le-mul n.nr_high n.na_high;
        },
      )

  -- all that check 3 finds of the tables
  pub tables_summed : {sums : Sums} {k e v : Bool} → Bytes l.active → Bytes l.configured
      → Summed su.na su.q (table_of 4 l.active) (table_of 4 l.configured) (table_of 4 l.used) su.nr sums
      → k ≡ all_below (length (table_of 8 l.counters)) (λ i. counter_ok reg.bandwidth_counter reg.bandwidth_ctr su.w (get_or (table_of 8 l.counters) i 0))
      → e ≡ all_below (length (table_of 2 l.events)) (λ i. setting_ok su.na Bandwidth (get_or (table_of 2 l.events) i 0))
      → v ≡ all_below (length (table_of 8 l.waiters)) (λ i. waiter_ok su (get_or (table_of 8 l.waiters) i 0))
      → SummedTables su (table_of 4 l.active) (table_of 4 l.configured) (table_of 4 l.used) (table_of 8 l.counters) (table_of 2 l.events) (table_of 8 l.waiters) sums k e v
  tables_summed a c s k e v = record {
    sized = words_sized su l held_long;
    active_fits = table_below 4 l.active (lit< tt) a;
    configured_fits = table_below 4 l.configured (lit< tt) c;
    summed = s;
    counters_are = k;
    events_are = e;
    waiters_are = v;
  }

  pub words_held : Bytes l.«record» → Bytes l.active → Bytes l.configured → Bytes l.used → Bytes l.counters → Bytes l.events → Bytes l.waiters → Words l r
  words_held b a c u n e v =
      let g = held_long.tables in
      record {
        «record» = held 8 (lit< tt) l.«record» (words_in r) (words_in r) (sym held_long.record_long) b w;
        active = table_held 4 _ l.active (lit< tt) g.active_long a;
        configured = table_held 4 _ l.configured (lit< tt) g.configured_long c;
        used = table_held 4 _ l.used (lit< tt) g.used_long u;
        counters = table_held 8 _ l.counters (lit< tt) g.counters_long n;
        events = table_held 2 _ l.events (lit< tt) g.events_long e;
        waiters = table_held 8 _ l.waiters (lit< tt) g.waiters_long v;
      }

  -- what checks 1 to 3 find, by what check 3 finds
  abbrev Found : Result Totals Refusal → Type 0
  Found (Ok t) = Passing l (record { «record» = r; totals = t })
  Found (Err why) = (d : Call) → T (not (is_reset d)) → refusal (number_of why) (pointers d) l ≡ step_bytes l d

  found : Words l r → (o : Option Totals) → StateChecked (state_in l r) o → (x : Result Totals Refusal) → x ≡ ok_or o why.State → Found x
  found h (Some t) f x e =
      subst Found (sym e)
      (record {
        record_is = w;
        words = h;
        long = held_long;
        none = z;
        passes = record { ranges = held_ranges; sized = words_sized su l held_long; wellformed = f.0; totals = f.1 };
      })
  found h None f x e =
      subst Found (sym e)
      (λ d n. answered l r w z d n (outcome (refused 3) (state_in l r))
      (call_failed (state_in l r) d n why.State
      (check_3 (setup_ok su) (lengths_ok su (state_in l r)) (well_formed (state_in l r)) (setup_ok_lem su held_ranges) (lengths_ok_lem su (state_in l r) (words_sized su l held_long)) f)) _ refl)

  pub found_by : {sums : Sums} {k e v : Bool} {x : Result Totals Refusal} (t o : Option Totals)
      → Bytes l.«record» → Bytes l.active → Bytes l.configured → Bytes l.used → Bytes l.counters → Bytes l.events → Bytes l.waiters
      → Summed su.na su.q (table_of 4 l.active) (table_of 4 l.configured) (table_of 4 l.used) su.nr sums
      → k ≡ all_below (length (table_of 8 l.counters)) (λ i. counter_ok reg.bandwidth_counter reg.bandwidth_ctr su.w (get_or (table_of 8 l.counters) i 0))
      → e ≡ all_below (length (table_of 2 l.events)) (λ i. setting_ok su.na Bandwidth (get_or (table_of 2 l.events) i 0))
      → v ≡ all_below (length (table_of 8 l.waiters)) (λ i. waiter_ok su (get_or (table_of 8 l.waiters) i 0))
      → ((a c u n e' w' : List ℕ) → SummedTables su a c u n e' w' sums k e v → TablesChecked su a c u n e' w' t)
      → ((a c u n e' w' : List ℕ) → TablesChecked su a c u n e' w' t → StateChecked (state r a c u n e' w') o)
      → x ≡ ok_or o why.State → Found x
  found_by t o b a c u n i y s k e v tables check q =
      found (words_held b a c u n i y) _ (check _ _ _ _ _ _ (tables _ _ _ _ _ _ (tables_summed a c s k e v))) _ q
