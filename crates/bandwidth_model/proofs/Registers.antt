-- What each call does to the registers and to the configured table, beside what the ledger knows of them.
use mathlib.Core.Path.{◌≡◌, refl, sym, ap, subst⁻¹}
use mathlib.Core.Bool.{Bool, false, cond, ◌&&◌}
use mathlib.Core.List.{List, [], ◌∷◌}
use Prim.Native.Nat.{ℕ, ◌<◌}
use lib.Dec.{eqb}
use Rattle.tables.proofs.Tests.{nand_r, nor_l, nor_r, not_both, eqb_in}
use Rattle.access.specs.Access as access
use Rattle.access.specs.Checks.{is_reset, on_write}
use Rattle.access.specs.Pairs.{Setting, of_pair}
use Rattle.access.proofs.Pairs.{other_pair}
use Rattle.allocation.specs.Allocation.{alloc_word, table_after}
use Rattle.monitor.specs.Monitor.{cleared, write_mon, mon_word}
use Rattle.monitor.specs.Tally.{Tally}
use Rattle.codes.specs.declared.Resource.TheVariants.{Bandwidth}
use Rattle.codes.specs.declared.AllocOp.TheVariants.{ConfigLimit}
use Rattle.runs.specs.Claims.{control_after}
use Rattle.runs.proofs.Settings as shared
use Rattle.runs.proofs.Settings.{Acts, Lasts, anew, none, sets_if, Settings}
use Rattle.runs.proofs.Registers.{Parts, Registered, Agrees, Invariants, status_in, mon_status_in}
use Rattle.bandwidth_model.specs.Rules.{Setup, weight_of, stored_form, is_holder, settled, bad_limit, alloc_succeeds, limit_of}
use Rattle.bandwidth_model.specs.Calls.{Call, kind_of}
use Rattle.bandwidth_model.specs.Model.{State, Allocation, registers, register, read_at, after_reset, write_alloc, write_bw, write_at, perform}
use Rattle.bandwidth_model.specs.Ledger.{Window, Ledger, accepted, settings_by, tally}
use Rattle.bandwidth_model.specs.Claim.{controller, book, but_weight, weight}
use Rattle.bandwidth_model.proofs.Words.{stored_stored}
use Rattle.bandwidth_model.proofs.Settings.{TableFacts}
use Rattle.bandwidth_model.proofs.Weights.{settled_own, settled_same, settled_without}
use Rattle.bandwidth_model.proofs.Accepted.{accepted_limit}
use Rattle.bandwidth_model.proofs.Steps.{accepting, call_by, write_by}
use Rattle.bandwidth_model.proofs.Invariant.{ledger_by, Inv, keeps}
use Rattle.bandwidth_model.proofs.Counters.{Counts, counts_first, counts_next}

abbrev pub parts : Parts State Setup
parts = record {
  setup = λ s. s.setup;
  nr = λ su. su.nr;
  na = λ su. su.na;
  nm = λ su. su.nm;
  resource = Bandwidth;
  table = λ s. s.alloc.configured;
  bad = λ s v. bad_limit s.setup s.alloc.configured s.alloc.bw v;
  registers = registers;
}

module _ (s : State) where
  alloc_ctl_lem : (c : Call) → (perform s c).state.alloc.ctl ≡ control_after access.alloc_ctl (λ v. alloc_word s.setup.na v 0 (status_in parts s v)) s.alloc.ctl (kind_of c)
  unfolding control_after perform after_reset write_alloc write_bw
  alloc_ctl_lem =
      let word : ℕ → ℕ = λ v. alloc_word s.setup.na v 0 (status_in parts s v) in
      call_by s (λ k s'. s'.alloc.ctl ≡ control_after access.alloc_ctl word s.alloc.ctl k) (λ su. refl)
      (λ size offset v. write_by s (λ x y z t. t.alloc.ctl ≡ cond x (word v) s.alloc.ctl) offset v refl refl refl refl)
      (λ s' k. ap (λ (a : Allocation). a.ctl) k.alloc)

  mon_ctl_lem : (c : Call) → (perform s c).state.monitor.ctl ≡ control_after access.mon_ctl (λ v. mon_word s.setup.na v 0 (mon_status_in parts s v)) s.monitor.ctl (kind_of c)
  unfolding control_after perform after_reset cleared write_mon
  mon_ctl_lem =
      let word : ℕ → ℕ = λ v. mon_word s.setup.na v 0 (mon_status_in parts s v) in
      call_by s (λ k s'. s'.monitor.ctl ≡ control_after access.mon_ctl word s.monitor.ctl k) (λ su. refl)
      (λ size offset v. write_by s (λ x y z t. t.monitor.ctl ≡ cond z (word v) s.monitor.ctl) offset v refl refl refl refl) (λ s' k. k.ctl)

pub registered : Registered controller parts
unfolding perform read_at register write_at write_alloc accepted
registered = record {
  accepting = accepting;
  resets_kind = λ u. refl;
  writes_kind = λ size offset v. refl;
  value = λ s size offset. refl;
  value_accepted = λ v. tt;
  value_tells = λ v w e. cc;
  alloc = alloc_ctl_lem;
  mon = mon_ctl_lem;
  operand = λ s size v. refl;
}

-- ---- with the ledger

-- a setting of a pair that is there, in stored form, on a well-formed table
pub record Fits (su : Setup) (p : Setting ℕ) : Type 0 where
  pub rcid_low : p.rcid < su.nr
  pub at_low : p.at < su.na
  pub stored : p.value ≡ stored_form p.value

abbrev pub acts : Acts parts.nr parts.na
acts = record { put = settled; Fits = Fits; Right = TableFacts; low = λ su p h. (h.rcid_low, h.at_low) }

abbrev Sets : State → State → List (Setting ℕ) → Bool → Type 0
Sets = shared.Sets parts.setup acts parts.table

sets_call : (s : State) (asked pooled : List ℕ) (sum : ℕ) (closed : List Window) (c : Call)
    → Sets s (perform s c).state (settings_by (ledger_by s asked pooled sum closed) c) (is_reset (kind_of c))
unfolding settings_by write_alloc write_bw table_after
sets_call s asked pooled sum closed =
    let su = s.setup in
    let conf = s.alloc.configured in
    let bw = s.alloc.bw in
    let made : ℕ → Bool → List (Setting ℕ) = λ v x. cond (x && alloc_succeeds su conf bw ConfigLimit v) (limit_of su bw v ∷ []) [] in
    call_by s (λ k s'. Sets s s' (on_write k (λ size offset v. made v (access.writes_low offset access.alloc_ctl)) []) (is_reset k)) (λ u. anew)
    (λ size offset v. write_by s (λ x y z t. Sets s t (made v x) false) offset v
    (sets_if _ _ _ s _ (limit_of su bw v) (alloc_succeeds su conf bw ConfigLimit v) refl refl
    (λ d. let ok = accepted_limit su conf bw v d in record { rcid_low = ok.rcid_low; at_low = ok.at_low; stored = stored_stored bw }))
    (none refl refl) (none refl refl) (none refl refl))
    (λ s' k. none k.setup (ap (λ (a : Allocation). a.configured) k.alloc))

pub setting : Settings controller book Inv parts.setup (λ l. l.setup) acts parts.table
setting = record {
  inv = keeps;
  same = λ s l i. sym (ap (λ (k : Ledger). k.setup) i.same);
  right = λ s l i. i.good.alloc.configured;
  sets = λ s l i c.
      subst⁻¹ (λ (k : Ledger). Sets s (perform s c).state (settings_by k c) (is_reset (kind_of c))) i.same (sets_call s i.asked i.pooled i.sum i.closed c);
}

-- what stands of a setting
pub rest_lasts : Lasts acts but_weight
rest_lasts = record {
  now = λ su t q r f. ap but_weight.of (settled_own su t r.long q f.rcid_low f.at_low f.stored);
  other = λ su t q p r f lr la n. settled_without su t r q f.rcid_low f.at_low p.rcid p.at lr la (other_pair p q n);
}

pub weight_lasts : Lasts acts weight
weight_lasts = record {
  now = λ su t q r f. ap weight_of (settled_own su t r.long q f.rcid_low f.at_low f.stored);
  other = λ su t q p r f lr la n.
      let pair = of_pair p.rcid p.at q in
      let here = eqb q.rcid p.rcid in
      let holder = is_holder q.value in
      ap weight_of (settled_same su t r.long q f.rcid_low f.at_low p.rcid p.at la (other_pair p q (nor_l pair (here && holder) n))
      (λ h e. not_both holder h (nand_r here holder (nor_r pair (here && holder) n) (eqb_in q.rcid p.rcid (sym e)))));
}

agreeing : (s : State) (l : Ledger) → Inv s l → Agrees controller parts book s l
unfolding settings_by
agreeing s l i =
    subst⁻¹ (λ (k : Ledger). Agrees controller parts book s k) i.same
    (record { na = refl; capabilities = refl; operand = refl; status = λ v. refl; mon = λ v. refl; value = stored_form s.alloc.bw; sets = λ size v. refl })

pub invariants : Invariants controller parts book tally Inv Counts
invariants = record {
  inv = keeps;
  first = λ s su e. counts_first s su;
  next = counts_next;
  agrees = agreeing;
  shown = λ s t k. sym (ap (λ (x : Tally Setup ℕ). x.shown) k.same);
}
