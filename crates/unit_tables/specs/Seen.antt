-- What check 3 joins of the owners.
use Rattle.std.specs.Prelude.{◌≡◌, ℕ, ◌+◌, ◌-◌, ◌*◌}
use Rattle.tables.specs.View.{union_below}
use Rattle.unit_tables.specs.View.{rcid_at_plus, mcid_plus, mark_plus}
use Rattle.unit_tables.specs.declared.checks.Seen.{Seen}

-- the unions over the owners f 0 to f (n - 1)
pub record SeenBelow (nr nm na n : ℕ) (f : ℕ → ℕ) (r : Seen) : Type 0 where
  pub rcids_ats_are : r.rcids_ats ≡ union_below n (λ i. rcid_at_plus (256 - nr + (8 - na) * 65536) (f i))
  pub mcids_are : r.mcids ≡ union_below n (λ i. mcid_plus ((256 - nm) * 256) (f i))
  pub marks_are : r.marks ≡ union_below n (λ i. mark_plus (f i))
  pub whole_are : r.whole ≡ union_below n f
