-- The code's holders, grants and used bytes as the model's.
use Rattle.std.specs.Prelude.{List, ℕ, Option, None, Some}
use Rattle.bandwidth_model.specs.Rules as rules
use Rattle.bandwidth_model.specs.Calls as calls
use Rattle.bandwidth_model.specs.Model as model
use Rattle.bandwidth_grants.specs.declared.Grant.{Grant}

abbrev pub usage : List ℕ → List ℕ → ℕ → model.Usage
usage active used pool = record { active = active; used = used; pool = pool }

abbrev pub holder_from : Option ℕ → rules.Holder
holder_from None = rules.nobody
holder_from (Some i) = rules.held i

abbrev pub grant_from : Grant → calls.Grant
grant_from g = record { reserved = g.reserved; pool = g.pool }
