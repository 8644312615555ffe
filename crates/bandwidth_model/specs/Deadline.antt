-- The deadline of a waiter (rule Q7): it is done within its bytes divided by what its holder reserves, rounded up, window ends.
use Rattle.std.specs.Prelude.{◌≡◌, Bool, true, false, ◌&&◌, ◌||◌, List, [], ◌∷◌, ◌++◌, ℕ, ◌+◌, ◌-◌, ◌*◌, ◌/◌, ◌≤◌, T, if◌then◌else◌}
use Rattle.tables.specs.Notation.{◌<?◌}
use Rattle.runs.specs.Runs.{event, after, events, untouched, Always}
use Rattle.access.specs.Pairs.{known_at}
use Rattle.bandwidth_model.specs.Rules.{reserved, holder_of}
use Rattle.bandwidth_model.specs.Calls.{Call, reset, read, write, request, device_request, end_window, wait, need, done, value}
use Rattle.bandwidth_model.specs.Waiters.{held_word}
use Rattle.bandwidth_model.specs.Model.{State, step}
use Rattle.bandwidth_model.specs.Ledger.{Event, Window, Ledger, accepted, note}
use Rattle.bandwidth_model.specs.Claim.{controller, book, is_reset}

unfoldable pub is_end : Call → Bool
is_end (reset su) = false
is_end (read size offset) = false
is_end (write size offset v) = false
is_end (request rcid mcid at kind bytes) = false
is_end (device_request mode word at kind bytes) = false
is_end end_window = true
is_end (wait rcid mcid at kind bytes) = false
is_end (need rcid) = false

-- an accepted window end
unfoldable pub ends : Event → Bool
ends e = accepted e.answer && is_end e.call

-- how many of them a list has
unfoldable pub ends_in : List Event → ℕ
ends_in [] = 0
ends_in (e ∷ es) = (if ends e then 1 else 0) + ends_in es

-- the blocks that a pair's holder has in force in a window, 0 where there is none
unfoldable pub blocks_in : Window → ℕ → ℕ → ℕ
blocks_in w rcid at = reserved (held_word w.active (holder_of w.setup w.active rcid at))

-- the event is an accepted reset, or a window end that leaves the pair's holder fewer than r blocks in force, by the ledger as it stood before
unfoldable pub fails : ℕ → ℕ → ℕ → Ledger → Event → Bool
fails r rcid at l e = (accepted e.answer && is_reset e.call) || (ends e && blocks_in (note l e).now rcid at <? r)

-- n divided by d, rounded up
unfoldable pub over : ℕ → ℕ → ℕ
over n d = (n + (d - 1)) / d

-- n bytes are put to wait in the state s with the ledger l; in the calls between, which follow, no reset comes, the pair's holder has
-- at least r blocks in force at each window end, and of these there are enough
pub record Waits (s : State) (l : Ledger) (between : List Call) (rcid mcid at kind n r : ℕ) : Type 0 where
  pub put : (step s (wait rcid mcid at kind n)).answer ≡ done
  pub some : 1 ≤ r
  pub backed : T (untouched note (fails r rcid (known_at l.setup.na at)) (note l (event step s (wait rcid mcid at kind n)))
      (events step (step s (wait rcid mcid at kind n)).state between))
  pub enough : over n (r * l.setup.q) ≤ ends_in (events step (step s (wait rcid mcid at kind n)).state between)

-- at some moment among the calls between, which the state s precedes, nothing is needed; another request may wait under the RCID later
pub record Done (s : State) (between : List Call) (rcid : ℕ) : Type 0 where
  pub until : List Call
  pub rest : List Call
  pub cut : between ≡ until ++ rest
  pub reads : (step (after step s until) (need rcid)).answer ≡ value 0

-- a request that is put to wait in the state s with the ledger l is done in time
abbrev pub InTime : State → Ledger → Type 0
InTime s l =
    (between : List Call) (rcid mcid at kind n r : ℕ) → Waits s l between rcid mcid at kind n r → Done (step s (wait rcid mcid at kind n)).state between rcid

pub record Deadline : Type 0 where
  pub always : Always controller book.keeper InTime
