use mathlib.Core.Path.{sym}
use Rattle.tables.proofs.Union.{union_none}
use Rattle.unit_tables.proofs.checks.none_seen.Goals as goal

pub returns : goal.returns
returns c nr nm na f = record { rcids_ats_are = sym (union_none _); mcids_are = sym (union_none _); marks_are = sym (union_none _); whole_are = sym (union_none _) }
