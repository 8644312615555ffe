-- A code in a row; tables whose rows follow each other, from 0 to the end of the field, which have each code in exactly one row.
use mathlib.Core.Path.{◌≡◌, sym, subst, ◌∙◌}
use mathlib.Core.Bool.{Bool, true, false, not, ◌&&◌, ◌||◌}
use mathlib.Core.List.Memᴰ
use mathlib.Core.List.{List, [], ◌∷◌, Memᴰ}
use mathlib.Core.Logic.{◌⊎◌, inl, inr}
use Prim.Native.Nat.{ℕ, ◌+◌, ◌≤◌, ◌<◌}
use native.Mathlib.Omega.{arith}
use lib.Dec.{T, leb, eqb, leb→le, nleb→lt, eqb→eq}
use Rattle.tables.proofs.Tests.{cases, and_l, and_r, or_l, or_r, not_in, is_true, is_false, eqb_in, same_test, between_low, between_high, between_in}
use Rattle.codes.specs.Codes.{Codes, ◌has◌, ◌to◌}
use Rattle.codes.specs.Claims.{EachInOneRow}

-- ---- a row and a code

pub has_in : (row : Codes) (code : ℕ) → row.first ≤ code → code ≤ row.last → T (row has code)
unfolding ◌has◌
has_in row code = between_in row.first code row.last

pub first_le : (row : Codes) (code : ℕ) → T (row has code) → row.first ≤ code
unfolding ◌has◌
first_le row code = between_low row.first code row.last

pub le_last : (row : Codes) (code : ℕ) → T (row has code) → code ≤ row.last
unfolding ◌has◌
le_last row code = between_high row.first code row.last

-- the code of a row that has one
pub code_of : (n code : ℕ) → T ((n to n) has code) → code ≡ n
code_of n code t = omega (arith, first_le (n to n) code t, le_last (n to n) code t)

pub single_test : (n code : ℕ) → eqb code n ≡ (n to n) has code
single_test n code =
    same_test (eqb code n) ((n to n) has code) (λ t. let e = eqb→eq code n t in has_in (n to n) code (omega (arith, e)) (omega (arith, e))) (λ t. eqb_in code n (code_of n code t))

-- a code above it is not in that row
pub single_above : (n code : ℕ) → n < code → (n to n) has code ≡ false
single_above n code h = is_false ((n to n) has code) (not_in ((n to n) has code) (λ u. omega (arith, le_last (n to n) code u)))

-- a code stands in the row that a match found
pub found : {X : Type 0} (table : X → Codes) (s : X) {r : X} (code : ℕ) → r ≡ s → T (table r has code) → T (table s has code)
found {X = X} table s code e t = subst (λ (x : X). T (table x has code)) e t

-- two rows of a table that have a code are one
pub one_row : {X : Type 0} {table : X → Codes} {end : ℕ} → EachInOneRow table end → (r s : X) (code : ℕ) → T (table r has code) → T (table s has code) → r ≡ s
one_row one r s code t u = let o = one.each code (one.below r code t) in o.only r t ∙ sym (o.only s u)

-- OP of the reserved row above 2 or of the custom row of mon_ctl: neither operation, and invalid
pub record OtherOp (op : ℕ) : Type 0 where
  pub not1 : (1 to 1) has op ≡ false
  pub not2 : (2 to 2) has op ≡ false
  pub invalid : ((0 to 0) has op || (3 to 23) has op || (24 to 31) has op) ≡ true

other_op : (op : ℕ) → 3 ≤ op → T ((0 to 0) has op || (3 to 23) has op || (24 to 31) has op) → OtherOp op
other_op op h t = record {
  not1 = single_above 1 op (omega arith);
  not2 = single_above 2 op (omega arith);
  invalid = is_true ((0 to 0) has op || (3 to 23) has op || (24 to 31) has op) t;
}

pub reserved_op : (op : ℕ) → T ((3 to 23) has op) → OtherOp op
reserved_op op t = other_op op (first_le (3 to 23) op t) (or_l ((0 to 0) has op || (3 to 23) has op) ((24 to 31) has op) (or_r ((0 to 0) has op) ((3 to 23) has op) t))

pub custom_op : (op : ℕ) → T ((24 to 31) has op) → OtherOp op
custom_op op t = other_op op (omega (arith, first_le (24 to 31) op t)) (or_r ((0 to 0) has op || (3 to 23) has op) ((24 to 31) has op) t)

-- ---- rows that follow each other

module _ {X : Type 0} (table : X → Codes) where
  -- the first begins at from, each other behind the one before it, and the last ends before end
  abbrev pub follow : ℕ → List X → ℕ → Bool
  follow from [] end = eqb from end
  follow from (r ∷ rs) end = eqb from (table r).first && leb from (table r).last && follow ((table r).last + 1) rs end

  record Follows (from : ℕ) (r : X) (rs : List X) (end : ℕ) : Type 0 where
    begins : from ≡ (table r).first
    ends : from ≤ (table r).last
    rest : T (follow ((table r).last + 1) rs end)

  follows : (from : ℕ) (r : X) (rs : List X) (end : ℕ) → T (follow from (r ∷ rs) end) → Follows from r rs end
  follows from r rs end t =
      let a = eqb from (table r).first in
      let b = leb from (table r).last in
      let c = follow ((table r).last + 1) rs end in
      let ab = and_l (a && b) c t in
      record { begins = eqb→eq from (table r).first (and_l a b ab); ends = leb→le from (table r).last (and_r a b ab); rest = and_r (a && b) c t }

  reaches : (from : ℕ) (rs : List X) (end : ℕ) → T (follow from rs end) → from ≤ end
  reaches from [] end t = omega (arith, eqb→eq from end t)
  reaches from (r ∷ rs) end t =
      let f = follows from r rs end t in
      omega (arith, f.ends, reaches ((table r).last + 1) rs end f.rest)

  -- every row lies between from and end
  inside : (from : ℕ) (rs : List X) (end : ℕ) → T (follow from rs end) → (s : X) → Memᴰ s rs → (from ≤ (table s).first) × ((table s).last < end)
  inside from [] end t s m = absurd (Memᴰ.not-nil m)
  inside from (r ∷ rs) end t s m =
      let f = follows from r rs end t in
      by (Memᴰ.cases_cons m) f (inside ((table r).last + 1) rs end f.rest s)
    where
      by : (s ≡ r) ⊎ Memᴰ s rs → Follows from r rs end → (Memᴰ s rs → ((table r).last + 1 ≤ (table s).first) × ((table s).last < end))
          → (from ≤ (table s).first) × ((table s).last < end)
      by (inl e) f i = rw e (omega (arith, f.begins), omega (arith, reaches ((table r).last + 1) rs end f.rest))
      by (inr k) f i = (omega (arith, f.ends, (i k).0), (i k).1)

  -- the code stands in one of the rows, and in no other
  record Among (rs : List X) (code : ℕ) : Type 0 where
    row : X
    stands : T (table row has code)
    only : (r : X) → Memᴰ r rs → T (table r has code) → r ≡ row

  among : (from : ℕ) (rs : List X) (end : ℕ) → T (follow from rs end) → (code : ℕ) → from ≤ code → code < end → Among rs code
  among from [] end t code h k = absurd (omega (arith, eqb→eq from end t))
  among from (r ∷ rs) end t code h k =
      let f = follows from r rs end t in
      cases (λ b. Among (r ∷ rs) code) (leb code (table r).last) (here f) (λ l. later l (among ((table r).last + 1) rs end f.rest code (omega (arith, nleb→lt code (table r).last l)) k))
    where
      here : Follows from r rs end → T (leb code (table r).last) → Among (r ∷ rs) code
      here f l = record {
        row = r;
        stands = has_in (table r) code (omega (arith, f.begins)) (leb→le code (table r).last l);
        only = λ s m u. first s u (Memᴰ.cases_cons m);
      }
        where
          first : (s : X) → T (table s has code) → (s ≡ r) ⊎ Memᴰ s rs → s ≡ r
          first s u (inl e) = e
          first s u (inr i) = absurd (omega (arith, (inside ((table r).last + 1) rs end f.rest s i).0, first_le (table s) code u, leb→le code (table r).last l))

      later : T (not (leb code (table r).last)) → Among rs code → Among (r ∷ rs) code
      later l a = record { row = a.row; stands = a.stands; only = λ s m u. next s u (Memᴰ.cases_cons m) }
        where
          next : (s : X) → T (table s has code) → (s ≡ r) ⊎ Memᴰ s rs → s ≡ a.row
          next s u (inl e) = absurd (omega (arith, nleb→lt code (table r).last l, le_last (table r) code (rw e at u)))
          next s u (inr i) = a.only s i u

  -- rows that follow each other from 0, and no other row has a code
  pub each_in_one : (rs : List X) (end : ℕ) → T (follow 0 rs end) → ((r : X) (code : ℕ) → T (table r has code) → Memᴰ r rs) → EachInOneRow table end
  each_in_one rs end t every = record {
    each = λ code h. let a = among 0 rs end t code (omega arith) h in record { row = a.row; stands = a.stands; only = λ r u. a.only r (every r code u) u };
    below = λ r code u. omega (arith, (inside 0 rs end t r (every r code u)).1, le_last (table r) code u);
  }
