-- The words of waiters: the tests that check 3 makes of one are the definition's.
use mathlib.Core.Path.{◌≡◌, sym, subst, ◌∙◌}
use mathlib.Core.Bool.{true, ◌&&◌, ◌||◌}
use mathlib.Core.List.{List}
use Prim.Native.Nat.{ℕ, ◌/◌, ◌%◌, ◌^◌}
use native.Mathlib.Nat.{mod-eq_of_lt, mod-lt}
use lib.Bits.{and_mask}
use lib.Dec.{T, eqb, eqb→eq, leb, ltb, ltb→lt, lt→ltb}
use lib.ListN.{length, get_or}
use lib.Pow.{pow_pos}
use Rattle.fields.specs.Layout.{named_bits}
use Rattle.fields.specs.Registers as reg
use Rattle.fields.proofs.Laws.{pack_unpack}
use Rattle.fields.proofs.Registers.{waiter_ordered}
use Rattle.tables.specs.Below.{all_below}
use Rattle.tables.specs.View.{union_below}
use Rattle.tables.proofs.Tests.{or_l, eqb_in, is_true, same_test}
use Rattle.tables.proofs.Laws.{all_in}
use Rattle.tables.proofs.Union.{union_zero, low_test}
use Rattle.bandwidth_model.specs.Rules.{Setup}
use Rattle.bandwidth_model.specs.Waiters.{need_of, waiter_mcid, waiter_at, waiter_ok}

-- the layout names the low 44 bits
waiter_kept : (w : ℕ) → named_bits reg.waiter w ≡ w % 2 ^ 44
waiter_kept w = pack_unpack reg.waiter 44 w waiter_ordered ∙ and_mask w 44

-- no bit above them
high_test : (w : ℕ) → eqb (w / 2 ^ 44) 0 ≡ eqb w (named_bits reg.waiter w)
high_test w =
    low_test 44 w
    ∙ same_test (ltb w (2 ^ 44)) (eqb w (named_bits reg.waiter w)) (λ t. eqb_in w (named_bits reg.waiter w) (sym (waiter_kept w ∙ mod-eq_of_lt (ltb→lt w (2 ^ 44) t))))
    (λ t. subst (λ (x : ℕ). T (ltb x (2 ^ 44))) (sym (eqb→eq w (named_bits reg.waiter w) t ∙ waiter_kept w)) (lt→ltb (w % 2 ^ 44) (2 ^ 44) (mod-lt w (pow_pos 44))))

-- a word, by its fields
pub waiter_test : (su : Setup) (word : ℕ) {need mcid at : ℕ} → need ≡ need_of word → mcid ≡ waiter_mcid word → at ≡ waiter_at word
    → (eqb word 0 || (leb 1 need && ltb mcid su.nm && ltb at su.na && eqb (word / 2 ^ 44) 0)) ≡ waiter_ok su word
unfolding waiter_ok
waiter_test su word e f g = rw (e, f, g, high_test word)

-- where the union of all words is 0, none waits
pub none_waits : (su : Setup) (t : List ℕ) → union_below (length t) (λ i. get_or t i 0) ≡ 0 → true ≡ all_below (length t) (λ i. waiter_ok su (get_or t i 0))
unfolding waiter_ok
none_waits su t e =
    sym (is_true (all_below (length t) (λ i. waiter_ok su (get_or t i 0)))
    (all_in (length t) (λ i. waiter_ok su (get_or t i 0)) (λ i l. or_l (eqb (get_or t i 0) 0) _ (eqb_in (get_or t i 0) 0 (union_zero (length t) (λ k. get_or t k 0) e i l)))))
