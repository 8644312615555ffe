-- A part of a table, and a table with a part replaced: what `&t[a..e]` sees and what `&mut t[a..e]` leaves.
use Rattle.std.specs.Prelude.{◌≡◌, List, ◌++◌, ℕ, ◌-◌, ◌*◌, ◌≤◌, ◌<◌, take, drop}

-- the n entries from a on
abbrev pub part : ℕ → ℕ → List ℕ → List ℕ
part a n t = take n (drop a t)

-- t with u in place of its n entries from a on
abbrev pub with_part : ℕ → ℕ → List ℕ → List ℕ → List ℕ
with_part a n t u = take a t ++ (u ++ drop n (drop a t))

-- the words of an RCID, one for each AT; the table with u in their place
abbrev pub row : ℕ → List ℕ → ℕ → List ℕ
row na t rcid = part (rcid * na) na t

abbrev pub with_row : ℕ → List ℕ → ℕ → List ℕ → List ℕ
with_row na t rcid u = with_part (rcid * na) na t u

-- where an RCID's words begin and end; an RCID that is not there has none
pub record RowAt (nr na rcid from to : ℕ) : Type 0 where
  pub from_is : rcid < nr → from ≡ rcid * na
  pub long : rcid < nr → to - from ≡ na
  pub none : nr ≤ rcid → to - from ≡ 0
  pub order : from ≤ to
  pub short : to - from ≤ na
  pub inside : to ≤ nr * na
  pub few : to ≤ 2048
