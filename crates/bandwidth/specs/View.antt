-- The code's record, tables and answers as the model's.
use Rattle.std.specs.Prelude.{List, ℕ, Result, Ok, Err, set, replicate}
use Rattle.access.specs.Refusals.{number_of}
use Rattle.access.specs.declared.Refusal.{Refusal}
use Rattle.bandwidth_model.specs.Rules.{Setup, holder_word, sharer_word, reset_weight}
use Rattle.bandwidth_model.specs.Calls.{Answer, refused, done, value, granted}
use Rattle.bandwidth_model.specs.Model.{State, Outcome}
use Rattle.bandwidth_setup.specs.View.{setup_of}
use Rattle.bandwidth.specs.declared.Record.{Record}
use Rattle.bandwidth_grants.specs.declared.Grant.{Grant}

-- the record with the tables in force, configured, used, counters, counter settings and waiters
abbrev pub state : Record → List ℕ → List ℕ → List ℕ → List ℕ → List ℕ → List ℕ → State
state r active configured used counters events waiters = record {
  setup = setup_of r.setup;
  alloc = record { ctl = r.alloc_ctl; bw = r.bw_alloc; configured = configured };
  usage = record { active = active; used = used; pool = r.pool };
  monitor = record { ctl = r.mon_ctl; value = r.mon_ctr_val; counters = counters; events = events };
  waiters = waiters;
}

abbrev pub outcome : Answer → State → Outcome
outcome a s = record { answer = a; state = s }

-- the number and values for each case of an answer (rules A4 and R1 to R11)
abbrev pub ack_of : {X : Type 0} → Result X Refusal → Answer
ack_of (Ok x) = done
ack_of (Err r) = refused (number_of r)

abbrev pub reading_of : Result ℕ Refusal → Answer
reading_of (Ok v) = value v
reading_of (Err r) = refused (number_of r)

abbrev pub granting_of : Result Grant Refusal → Answer
granting_of (Ok g) = granted g.reserved g.pool
granting_of (Err r) = refused (number_of r)

-- the n words of RCID 0 after a reset
unfoldable pub reset_row : Setup → ℕ → List ℕ
reset_row su n = set (replicate n (sharer_word 0)) 0 (holder_word su.mrbwb reset_weight)
