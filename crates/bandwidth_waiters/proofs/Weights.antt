-- The weights of waiters by the words of their RCIDs, and their sum.
use mathlib.Core.Path.{◌≡◌, refl, sym, ◌∙◌}
use mathlib.Core.Bool.{cond, ◌&&◌}
use mathlib.Core.List.{List}
use Prim.Native.Nat.{ℕ, ◌+◌, ◌-◌, ◌<◌}
use native.Mathlib.Numerals.{add-one}
use native.Mathlib.Omega.{arith}
use lib.Dec.{eqb, eqb→eq, leb, ltb, ltb→lt}
use lib.ListN.{get_or}
use Rattle.fields.specs.Layout.{named_bits}
use Rattle.fields.specs.Registers as reg
use Rattle.fields.proofs.Laws.{get_zero}
use Rattle.tables.specs.Parts.{part, RowAt}
use Rattle.tables.specs.View.{Small}
use Rattle.tables.proofs.Tests.{cases, and_l, and_r, or_else, cond_yes, cond_no, eqb_in, neqb_in}
use Rattle.tables.proofs.Laws.{all_at}
use Rattle.bandwidth_model.specs.Rules.{Setup}
use Rattle.bandwidth_model.specs.Waiters.{need_of, waiter_mcid, waiter_at, waiter_ok, need_at, held_word, share_weight, waiter_holder, weight_at, weights_below, over_waiters}
use Rattle.bandwidth_model.specs.Model.{waiters_ok}
use Rattle.bandwidth_model.proofs.Settings.{table_facts}
use Rattle.bandwidth_grants.specs.Grants.{holder_in}
use Rattle.bandwidth_waiters.specs.Turns.{weight_in, Opens}
use Rattle.bandwidth_waiters.proofs.Turns.{row_held}

module _ {su : Setup} {active waiters : List ℕ} (o : Opens su active waiters) where
  pub at_low : (rcid : ℕ) → rcid < su.nr → waiter_at (get_or waiters rcid 0) < su.na
  unfolding waiters_ok waiter_ok waiter_at
  at_low rcid l =
      let word = get_or waiters rcid 0 in
      let named = leb 1 (need_of word) && ltb (waiter_mcid word) su.nm in
      let low = ltb (waiter_at word) su.na in
      let kept = eqb word (named_bits reg.waiter word) in
      or_else (eqb word 0) (named && low && kept) (all_at su.nr (λ r. waiter_ok su (get_or waiters r 0)) o.waiters_pass rcid l)
      (λ z. rw (eqb→eq word 0 z) (omega (arith, get_zero reg.waiter_at, o.ranges.na_low)))
      (λ t. ltb→lt (waiter_at word) su.na (and_r named low (and_l (named && low) kept t)))

  module _ (rcid : ℕ) where
    abbrev word : ℕ
    word = get_or waiters rcid 0

    pub weight_none : word ≡ 0 → Small (weight_in su active waiters rcid) 255 0
    unfolding weight_in
    weight_none z = record { is = sym (cond_yes (eqb word 0) 0 _ (eqb_in word 0 z)); small = omega arith }

    -- by the words of the RCID
    pub weight_row : {need at from to r : ℕ} → rcid < su.nr → RowAt su.nr su.na rcid from to → (word ≡ 0 → ⊥) → need ≡ need_of word → at ≡ waiter_at word
        → Small (share_weight su (held_word (part from (to - from) active) (holder_in (part from (to - from) active) at)) need) 255 r → Small (weight_in su active waiters rcid) 255 r
    unfolding weight_in weight_at waiter_holder need_at
    weight_row l w z e f s =
        let t = table_facts su active o.active_long o.active_ok in
        let same = row_held su active t w l (waiter_at word) (at_low rcid l) in
        record { is = s.is ∙ rw (e, f, same) (sym (cond_no (eqb word 0) 0 _ (neqb_in word 0 z))); small = s.small }

    pub weights_next : weights_below su active waiters (rcid + 1) ≡ weights_below su active waiters rcid + weight_in su active waiters rcid
    unfolding weights_below weight_in over_waiters
    weights_next =
        let sum = weights_below su active waiters rcid in
        rw add-one (cases (λ b. cond b sum (sum + weight_at su active waiters rcid) ≡ sum + cond b 0 (weight_at su active waiters rcid)) (eqb word 0) (λ t. omega arith) (λ t. refl))

  pub weights_start : 0 ≡ weights_below su active waiters 0
  unfolding weights_below over_waiters
  weights_start = refl
