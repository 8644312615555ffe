-- What a call answers, as a refusal's number.
use Rattle.std.specs.Prelude.{ℕ, Result, Ok, Err}
use Rattle.access.specs.declared.Refusal.{Refusal}
use Rattle.access.specs.Refusals.{number_of}

-- the refusal's number, or 0 for none
abbrev pub refusal_in : {X : Type 0} → Result X Refusal → ℕ
refusal_in (Ok x) = 0
refusal_in (Err why) = number_of why
