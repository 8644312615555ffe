-- The capacity controller as C sees it: numbers, and a record and tables of little-endian bytes.
use Rattle.std.specs.Prelude.{Bool, cond, ◌&&◌, List, [], ◌∷◌, ℕ, ◌*◌, eqb, length, get_or}
use Rattle.words.specs.Words.{words_of, bytes_of_all, table_of}
use Rattle.access.specs.Checks.{first}
use Rattle.replies.specs.Replies as shared
use Rattle.replies.specs.Replies.{reply, refusal, byte_checks}
use Rattle.capacity_model.specs.Rules.{Setup, setup_ok, pairs, unit_count}
use Rattle.capacity_model.specs.Calls.{Call, reset, read, write, fill, evict, Answer, refused, done, value, allowed}
use Rattle.capacity_model.specs.Model.{State, step}

-- ---- what C lends

-- the record and the masks, counters, counter settings and owners, as bytes
pub record Lent : Type 0 where
  pub «record» : List ℕ
  pub masks : List ℕ
  pub counters : List ℕ
  pub events : List ℕ
  pub owners : List ℕ

abbrev pub lent : List ℕ → List ℕ → List ℕ → List ℕ → List ℕ → Lent
lent r masks counters events owners = record { «record» = r; masks = masks; counters = counters; events = events; owners = owners }

-- the record is 10 words of 8 bytes
abbrev pub record_length : ℕ
record_length = 80

abbrev pub setup_by : ℕ → ℕ → ℕ → ℕ → ℕ → ℕ → Setup
setup_by ncblks nr na nm w u = record { ncblks = ncblks; nr = nr; na = na; nm = nm; w = w; units = u }

-- the record's words: the set-up, mon_ctl, mon_ctr_val, alloc_ctl and block_mask
abbrev pub record_of : State → List ℕ
record_of s =
    s.setup.ncblks ∷ s.setup.nr ∷ s.setup.na ∷ s.setup.nm ∷ s.setup.w ∷ s.setup.units ∷ s.monitor.ctl ∷ s.monitor.value ∷ s.alloc.ctl ∷ s.alloc.mask ∷ []

-- the state by the record's words and the tables
abbrev pub state_by : List ℕ → List ℕ → List ℕ → List ℕ → List ℕ → State
state_by r masks counters events owners = record {
  setup = setup_by (get_or r 0 0) (get_or r 1 0) (get_or r 2 0) (get_or r 3 0) (get_or r 4 0) (get_or r 5 0);
  alloc = record { ctl = get_or r 8 0; mask = get_or r 9 0; masks = masks };
  monitor = record { ctl = get_or r 6 0; value = get_or r 7 0; counters = counters; events = events };
  owners = owners;
}

-- the state that lent bytes hold
unfoldable pub state_of : Lent → State
state_of l = state_by (words_of 8 10 l.«record») (table_of 8 l.masks) (table_of 8 l.counters) (table_of 2 l.events) (table_of 4 l.owners)

-- the bytes of a state
unfoldable pub lent_of : State → Lent
lent_of s =
    lent (bytes_of_all 8 (record_of s)) (bytes_of_all 8 s.alloc.masks) (bytes_of_all 8 s.monitor.counters) (bytes_of_all 2 s.monitor.events) (bytes_of_all 4 s.owners)

-- ---- a call

abbrev pub Reply : Type 0
Reply = shared.Reply Lent

-- a read and a fill have a pointer
abbrev pub pointers : Call → ℕ
pointers (reset su) = 0
pointers (read size offset) = 1
pointers (write size offset v) = 0
pointers (fill rcid mcid at unit) = 1
pointers (evict unit) = 0

-- a refusal gives its number and leaves the bytes; 0 for none, with the bytes of the state left; an allowance is 1 or 0
abbrev pub reply_to : Lent → ℕ → Answer → State → Reply
reply_to l p (refused n) s = refusal n p l
reply_to l p done s = reply 0 [] (lent_of s)
reply_to l p (value v) s = reply 0 (v ∷ []) (lent_of s)
reply_to l p (allowed b) s = reply 0 (cond b 1 0 ∷ []) (lent_of s)

-- a reset goes by the set-up that it is given, any other call by the record's
unfoldable pub setup_for : Lent → Call → Setup
setup_for l (reset su) = su
setup_for l (read size offset) = (state_of l).setup
setup_for l (write size offset v) = (state_of l).setup
setup_for l (fill rcid mcid at unit) = (state_of l).setup
setup_for l (evict unit) = (state_of l).setup

-- each table has exactly the bytes of its words
unfoldable pub bytes_fit : Setup → Lent → Bool
bytes_fit su l =
    eqb (length l.masks) (pairs su * 8) && eqb (length l.counters) (su.nm * 8) && eqb (length l.events) (su.nm * 2)
    && eqb (length l.owners) (unit_count su * 4)

-- checks 1 and 2 on bytes
unfoldable pub byte_refusal : Setup → Lent → ℕ
byte_refusal su l = first (byte_checks (eqb (length l.«record») record_length) (setup_ok su) (bytes_fit su l)) 0

-- one call on bytes
abbrev pub step_bytes : Lent → Call → Reply
step_bytes l c = shared.step_lent step pointers reply_to (λ k d. byte_refusal (setup_for k d) k) state_of l c
