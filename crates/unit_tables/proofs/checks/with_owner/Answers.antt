use native.Mathlib.Omega.{arith}
use lib.Bits.{and_le_r}
use Rattle.tables.proofs.Union.{union_next}
use Rattle.unit_tables.specs.View.{rcid_at_plus, mcid_plus}
use Rattle.unit_tables.proofs.checks.with_owner.Goals as goal

pub overflow_add-result : goal.overflow_add-result
overflow_add-result c = record { fits = omega (arith, and_le_r c.args.owner 0x700ff, c.requires.nr_low, c.requires.na_low) }

pub overflow_add-result-2 : goal.overflow_add-result-2
overflow_add-result-2 c = let s = c.before in record { fits = omega (arith, and_le_r s.args.owner 0xff00, s.requires.nm_low) }

pub returns : goal.returns
unfolding rcid_at_plus mcid_plus
returns c =
    λ n f s e.
    record {
      rcids_ats_are = rw (union_next, ← s.rcids_ats_are, ← e);
      mcids_are = rw (union_next, ← s.mcids_are, ← e);
      marks_are = rw (union_next, ← s.marks_are, c.mark_plus.ensures, ← e);
      whole_are = rw (union_next, ← s.whole_are, ← e);
    }
