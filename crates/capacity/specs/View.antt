-- The code's record, tables and answers as the model's.
use Rattle.std.specs.Prelude.{Bool, List, ℕ, Result, Ok, Err}
use Rattle.access.specs.Refusals.{number_of}
use Rattle.access.specs.declared.Refusal.{Refusal}
use Rattle.capacity_model.specs.Calls.{Answer, refused, done, value, allowed}
use Rattle.capacity_model.specs.Model.{State, Outcome}
use Rattle.capacity_masks.specs.View.{setup_of, allocation}
use Rattle.capacity.specs.declared.Record.{Record}

-- the record with the masks, counters, counter settings and owners
abbrev pub state : Record → List ℕ → List ℕ → List ℕ → List ℕ → State
state r masks counters events owners = record {
  setup = setup_of r.setup;
  alloc = allocation r.alloc_ctl r.block_mask masks;
  monitor = record { ctl = r.mon_ctl; value = r.mon_ctr_val; counters = counters; events = events };
  owners = owners;
}

abbrev pub outcome : Answer → State → Outcome
outcome a s = record { answer = a; state = s }

-- the answer of a call: done, the value read, or whether the fill is allowed; or the number of the refusal (rules A4 and R1 to R8)
abbrev pub ack_of : {X : Type 0} → Result X Refusal → Answer
ack_of (Ok x) = done
ack_of (Err why) = refused (number_of why)

abbrev pub reading_of : Result ℕ Refusal → Answer
reading_of (Ok v) = value v
reading_of (Err why) = refused (number_of why)

abbrev pub filling_of : Result Bool Refusal → Answer
filling_of (Ok b) = allowed b
filling_of (Err why) = refused (number_of why)
