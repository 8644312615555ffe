-- The counts of emptied and filled units, from the words that are loaded and stored; counters stay well formed.
use mathlib.Core.Path.{◌≡◌, refl, sym, ap, ◌∙◌}
use mathlib.Core.Bool.{Bool, true, false, cond, ◌&&◌}
use mathlib.Core.List.{List, [], ◌∷◌}
use Prim.Native.Nat.{ℕ}
use lib.Dec.{eqb, lit<}
use lib.ListN.{get_or, set}
use Rattle.fields.specs.Layout.{get}
use Rattle.fields.specs.View.{InRange, Unpacked, of_owner}
use Rattle.fields.specs.Registers as reg
use Rattle.fields.specs.declared.Owner.{Owner}
use Rattle.tables.proofs.Tests.{cases}
use Rattle.tables.proofs.Laws.{every_stored}
use Rattle.monitor.specs.Occupancy.{counts_unit, filled, evicted}
use Rattle.monitor.proofs.Occupancy.{CounterOk, evicted_ok}
use Rattle.monitor.proofs.Steps.{counted_at}
use Rattle.units.specs.Owners.{is_owned}
use Rattle.units.specs.Counts.{noted, emptied, refilled}
use Rattle.unit_tables.specs.View.{Identifiers, CountersOk}

cond_and : {A : Type 0} (a b : Bool) (x y : A) → cond (a && b) x y ≡ cond a (cond b x y) y
cond_and true b x y = refl
cond_and false b x y = refl

pub owner_fits : (rcid mcid at : ℕ) → Identifiers rcid mcid at → InRange reg.owner (1 ∷ at ∷ mcid ∷ rcid ∷ [])
owner_fits rcid mcid at h = (lit< tt, (h.at_low, (h.mcid_low, (h.rcid_low, tt))))

-- the counter of an emptied unit's owner, from the owner's fields
pub emptied_word : (word counter setting counted left : ℕ) (owner : Owner) → Unpacked reg.owner word (of_owner owner) → counted ≡ cond (counts_unit setting owner.at) (evicted counter) counter
    → left ≡ cond (eqb owner.owned 1) counted counter → left ≡ cond (is_owned word && counts_unit setting (get reg.owner_at word)) (evicted counter) counter
unfolding is_owned
emptied_word word counter setting counted left owner u c l =
    let owned_is : owner.owned ≡ get reg.owned word = ap (λ (vs : List ℕ). get_or vs 0 0) u.is in
    let at_is : owner.at ≡ get reg.owner_at word = ap (λ (vs : List ℕ). get_or vs 1 0) u.is in
    rw (l, c, owned_is, at_is) (sym (cond_and (is_owned word) (counts_unit setting (get reg.owner_at word)) (evicted counter) counter))

module _ (counters events new : List ℕ) (i counter setting left : ℕ) (c-is : counter ≡ get_or counters i 0) (s-is : setting ≡ get_or events i 0) (stored : new ≡ set counters i left) where
  pub emptied_at : (owner : ℕ) → i ≡ get reg.owner_mcid owner → left ≡ cond (is_owned owner && counts_unit setting (get reg.owner_at owner)) (evicted counter) counter
      → new ≡ emptied 0 events evicted counters owner
  unfolding emptied noted
  emptied_at owner e l =
      counted_at (λ s. is_owned owner && counts_unit s (get reg.owner_at owner)) evicted counters events new i counter setting left c-is s-is l stored
      ∙ cond_and (is_owned owner) (counts_unit (get_or events i 0) (get reg.owner_at owner)) (set counters i (evicted (get_or counters i 0))) counters
      ∙ rw e refl

  pub filled_at : (w at : ℕ) → left ≡ cond (counts_unit setting at) (filled w counter) counter → new ≡ noted 0 events (filled w) counters i at
  unfolding noted
  filled_at w at l = counted_at (λ s. counts_unit s at) (filled w) counters events new i counter setting left c-is s-is l stored

pub refilled_is : (w : ℕ) (counters events after new : List ℕ) (owner mcid at : ℕ) → after ≡ emptied 0 events evicted counters owner → new ≡ noted 0 events (filled w) after mcid at
    → new ≡ refilled 0 events (filled w) evicted counters owner mcid at
unfolding refilled
refilled_is w counters events after new owner mcid at e n = rw (← e) n

pub emptied_ok : (w : ℕ) (counters events : List ℕ) (owner : ℕ) → CountersOk w counters → CountersOk w (emptied 0 events evicted counters owner)
unfolding emptied noted
emptied_ok w counters events owner h =
    let i = get reg.owner_mcid owner in
    let counts = counts_unit (get_or events i 0) (get reg.owner_at owner) in
    let new = set counters i (evicted (get_or counters i 0)) in
    cases (λ b. CountersOk w (cond b (cond counts new counters) counters)) (is_owned owner)
    (λ y. record {
      w_high = h.w_high;
      all = every_stored (CounterOk w) counts counters i (evicted (get_or counters i 0)) h.all (λ t. evicted_ok w (get_or counters i 0) h.w_high (h.all i));
    })
    (λ n. h)
