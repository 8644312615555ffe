-- Parts of a table of bytes: their words at the front of an array, over the width, and a test of all words part by part.
use mathlib.Core.Path.{◌≡◌, refl, sym, ap, ◌∙◌}
use mathlib.Core.Bool.{Bool, true, false, ◌&&◌}
use mathlib.Core.List.{List, ◌++◌}
use Prim.Native.Nat.{ℕ, zero, suc, ◌+◌, ◌*◌, ◌≤◌, ◌<◌}
use native.Mathlib.Nat.{add-zero, add-suc, le-div_iff_mul-le}
use native.Mathlib.Omega.{arith}
use lib.ListN.{length, get_or, take, drop, length-append}
use lib.Seq.{length-take-le, take_at}
use Rattle.tables.specs.Below.{all_below}
use Rattle.tables.specs.Parts.{part}
use Rattle.tables.proofs.Laws.{all_same}
use Rattle.tables.proofs.Parts.{part_at, part_length}
use Rattle.words.specs.Words.{table_of}
use Rattle.words.proofs.Parts.{entries}

-- ---- words loaded into the front of an array

-- before: n of its entries
pub front_room : (n : ℕ) (array : List ℕ) → n ≤ length array → n ≡ length (take n array)
front_room n array h = sym (length-take-le n array h)

pub load_inside : (k from n : ℕ) (array bs : List ℕ) → n ≤ length array → (from + n) * k ≤ length bs → (from + length (take n array)) * k ≤ length bs
load_inside k from n array bs h l = rw (length-take-le n array h) l

-- after: the words of the part
module _ (k from n : ℕ) (array bs new : List ℕ) (z : 0 < k) (few : n ≤ length array) (inside : (from + n) * k ≤ length bs) (e : new ≡ part from (length (take n array)) (table_of k bs)) where
  new_is : new ≡ part from n (table_of k bs)
  new_is = e ∙ ap (λ (m : ℕ). part from m (table_of k bs)) (length-take-le n array few)

  new_long : length new ≡ n
  new_long = ap length new_is ∙ part_length (table_of k bs) from n (rw entries ((le-div_iff_mul-le z).1 inside))

  pub front_is : take n (new ++ drop n array) ≡ part from n (table_of k bs)
  front_is = take_at new (drop n array) n new_long ∙ new_is

  pub front_inside : n ≤ length (new ++ drop n array)
  front_inside = rw (length-append new (drop n array)) (omega (arith, new_long))

  pub front_long : n ≡ length (take n (new ++ drop n array))
  front_long = sym (ap length (take_at new (drop n array) n new_long) ∙ new_long)

  -- a test of all words of the front is one of all words of the part
  pub front_test : (f : ℕ → Bool) (ok : Bool) → (let front = take n (new ++ drop n array) in ok ≡ all_below (length front) (λ i. f (get_or front i 0)))
      → ok ≡ all_below n (λ i. f (get_or (part from n (table_of k bs)) i 0))
  front_test f ok q = q ∙ rw (← front_long, front_is) refl

-- ---- a test of the first words, and of those of the part behind them

all_add : (n m : ℕ) (p : ℕ → Bool) → all_below (n + m) p ≡ (all_below n p && all_below m (λ i. p (n + i)))
unfolding all_below
all_add n zero p = ap (λ (k : ℕ). all_below k p) (add-zero n) ∙ sym (and_true (all_below n p))
  where
    and_true : (b : Bool) → (b && true) ≡ b
    and_true true = refl
    and_true false = refl
all_add n (suc m) p =
    ap (λ (k : ℕ). all_below k p) (add-suc n m) ∙ ap (λ (b : Bool). b && p (n + m)) (all_add n m p) ∙ and_assoc (all_below n p) (all_below m (λ i. p (n + i))) (p (n + m))
  where
    and_assoc : (a b c : Bool) → (a && b && c) ≡ (a && (b && c))
    and_assoc true b c = refl
    and_assoc false b c = refl

pub part_joined : (f : ℕ → Bool) (t : List ℕ) (n m : ℕ) (a b : Bool) → a ≡ all_below n (λ i. f (get_or t i 0)) → b ≡ all_below m (λ i. f (get_or (part n m t) i 0))
    → (a && b) ≡ all_below (n + m) (λ i. f (get_or t i 0))
part_joined f t n m a b x y =
    rw (x, y) (sym (all_add n m (λ i. f (get_or t i 0)) ∙ ap (λ (c : Bool). all_below n (λ i. f (get_or t i 0)) && c) (all_same m _ _ (λ i l. ap f (sym (part_at t n m i l))))))
