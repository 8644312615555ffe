-- A part of a table: what stands in it, and the table with the part replaced.
use mathlib.Core.Path.{◌≡◌, sym, ap, ◌∙◌}
use mathlib.Core.List.{List, ◌++◌}
use Prim.Native.Nat.{ℕ, ◌+◌, ◌*◌, ◌≤◌, ◌<◌}
use native.Mathlib.Nat.{mul-le-mul, mul-le-mul_right}
use native.Mathlib.Omega.{arith}
use lib.ListN.{length, get_or, set, take, drop, length-append, length-take, length-drop, take-append-drop, get_or-append}
use lib.Seq.{length-take-le, get_or-append-add, get_or-take, get_or-drop, take-set-lt, take-set-le, drop-set-lt, drop-set-add}
use Rattle.tables.specs.Below.{sum_of}
use Rattle.tables.specs.Parts.{part, with_part}
use Rattle.tables.proofs.Laws.{sum_of_append}

-- an entry of a part
pub part_at : (t : List ℕ) (a n i : ℕ) → i < n → get_or (part a n t) i 0 ≡ get_or t (a + i) 0
part_at t a n i h = rw (get_or-take, get_or-drop)

pub part_length : (t : List ℕ) (a n : ℕ) → a + n ≤ length t → length (part a n t) ≡ n
part_length t a n h = simp (length-take, length-drop) (omega arith)

-- a part put back as it was
pub part_same : (t : List ℕ) (a n : ℕ) → with_part a n t (part a n t) ≡ t
part_same t a n = rw (take-append-drop, take-append-drop)

-- the table whose part has an entry set is the table with that entry set
pub part_set : (t : List ℕ) (a n i v : ℕ) → i < n → with_part a n t (set (part a n t) i v) ≡ set t (a + i) v
part_set t a n i v l =
    rw (← take-set-lt n (drop a t) i v l, ← drop-set-lt n (drop a t) i v l, ← drop-set-add a t i v, take-append-drop, ← take-set-le a t (a + i) v (omega arith), take-append-drop)

-- parts of the same sum
pub sum_of_part : (f : ℕ → ℕ) (t : List ℕ) (a n : ℕ) (u v : List ℕ) → sum_of f u ≡ sum_of f v → sum_of f (with_part a n t u) ≡ sum_of f (with_part a n t v)
sum_of_part f t a n u v e =
    let rest = drop n (drop a t) in
    omega (arith, sum_of_append f (take a t) (u ++ rest), sum_of_append f u rest, sum_of_append f (take a t) (v ++ rest), sum_of_append f v rest)

-- the table with a part replaced by one of the same length: its length, what stands there, and what stands elsewhere
module _ (t : List ℕ) (a n : ℕ) (u : List ℕ) (h : a + n ≤ length t) (e : length u ≡ n) where
  before : length (take a t) ≡ a
  before = length-take-le a t (omega arith)

  pub with_length : length (with_part a n t u) ≡ length t
  with_length = simp (length-append, length-take, length-drop) (omega arith)

  pub with_at : (i : ℕ) → i < n → get_or (with_part a n t u) (a + i) 0 ≡ get_or u i 0
  with_at i l =
      ap (λ (k : ℕ). get_or (with_part a n t u) (k + i) 0) (sym before) ∙ get_or-append-add (take a t) (u ++ drop n (drop a t)) i 0
      ∙ get_or-append u (drop n (drop a t)) 0 i (omega arith)

  pub with_below : (i : ℕ) → i < a → get_or (with_part a n t u) i 0 ≡ get_or t i 0
  with_below i l = get_or-append (take a t) (u ++ drop n (drop a t)) 0 i (omega (arith, before)) ∙ get_or-take a t i 0 l

  pub with_above : (i : ℕ) → get_or (with_part a n t u) (a + (n + i)) 0 ≡ get_or t (a + (n + i)) 0
  with_above i =
      ap (λ (k : ℕ). get_or (with_part a n t u) (k + (n + i)) 0) (sym before) ∙ get_or-append-add (take a t) (u ++ drop n (drop a t)) (n + i) 0
      ∙ ap (λ (k : ℕ). get_or (u ++ drop n (drop a t)) (k + i) 0) (sym e) ∙ get_or-append-add u (drop n (drop a t)) i 0
      ∙ get_or-drop n (drop a t) i 0 ∙ get_or-drop a t (n + i) 0

-- an RCID's words lie in the table
pub row_inside : (nr na rcid : ℕ) → rcid < nr → rcid * na + na ≤ nr * na
row_inside nr na rcid h = omega (arith, mul-le-mul_right na h)

pub row_few : (nr na rcid : ℕ) → nr ≤ 256 → na ≤ 8 → rcid < nr → rcid * na + na ≤ 2048
row_few nr na rcid h k l = omega (arith, row_inside nr na rcid l, mul-le-mul h k)
