-- The code's set-up as the model's.
use Rattle.bandwidth_model.specs.Rules as rules
use Rattle.bandwidth_setup.specs.declared.Setup.{Setup}

abbrev pub setup_of : Setup → rules.Setup
setup_of s = record { nbwblks = s.nbwblks; mrbwb = s.mrbwb; nr = s.nr; na = s.na; nm = s.nm; q = s.q; w = s.w }
