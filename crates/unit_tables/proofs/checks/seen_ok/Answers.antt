use Rattle.unit_tables.proofs.Owners.{words_test}
use Rattle.unit_tables.proofs.checks.seen_ok.Goals as goal

pub returns : goal.returns
returns c = λ n f s. let e = c.before in words_test e.args.nr e.args.nm e.args.na e.requires n f _ _ _ _ s.rcids_ats_are s.mcids_are s.marks_are s.whole_are
