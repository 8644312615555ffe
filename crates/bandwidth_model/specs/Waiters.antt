-- Requests that wait (rules Q1 to Q7), over numbers and tables of words: what a waiter's word holds, and what waiters are served as a window opens. Model, ledger and tally all follow these.
use Rattle.std.specs.Prelude.{Bool, ◌&&◌, ◌||◌, List, [], ◌∷◌, ℕ, ◌+◌, ◌-◌, ◌*◌, ◌/◌, ◌^◌, min, set, if◌then◌else◌, ◌==◌}
use Rattle.tables.specs.Notation.{◌≤?◌, ◌<?◌, ◌‼◌}
use Rattle.std.specs.Prelude.{zero, suc}
use Rattle.fields.specs.Layout.{get, pack, named_bits}
use Rattle.fields.specs.Registers as reg
use Rattle.access.specs.Pairs.{known_at}
use Rattle.bandwidth_model.specs.Rules.{Setup, reserved, weight_of, Holder, nobody, held, holder_of, pool_of}
use Rattle.bandwidth_model.specs.Calls.{Grant, grant_sum}

-- ---- the word of a waiter, one for each RCID, 0 where none waits
unfoldable pub need_of : ℕ → ℕ
need_of word = get reg.waiter_need word

unfoldable pub waiter_mcid : ℕ → ℕ
waiter_mcid word = get reg.waiter_mcid word

unfoldable pub waiter_at : ℕ → ℕ
waiter_at word = get reg.waiter_at word

-- 0 for a read, 1 for a write
unfoldable pub waiter_kind : ℕ → ℕ
waiter_kind word = get reg.waiter_write word

-- what an RCID's waiter needs, 0 where none waits
unfoldable pub need_at : List ℕ → ℕ → ℕ
need_at waiters rcid = need_of (waiters ‼ rcid)

-- a waiter that needs nothing is done, and leaves word 0
unfoldable pub waiter_word : (need mcid at write : ℕ) → ℕ
waiter_word need mcid at write = if need == 0 then 0 else pack reg.waiter (write ∷ at ∷ mcid ∷ need ∷ [])

-- the word of a request that is put to wait; its bytes are a 32-bit number, all of which the field holds
unfoldable pub put_word : Setup → (mcid at kind bytes : ℕ) → ℕ
put_word su mcid at kind bytes = waiter_word (min bytes (2 ^ 32 - 1)) mcid (known_at su.na at) (if kind == 0 then 0 else 1)

-- the word of a waiter that was served g bytes
unfoldable pub served_word : ℕ → ℕ → ℕ
served_word word g = waiter_word (need_of word - g) (waiter_mcid word) (waiter_at word) (waiter_kind word)

-- a word that a call stores
unfoldable pub waiter_ok : Setup → ℕ → Bool
waiter_ok su word =
    word == 0 || (1 ≤? need_of word && waiter_mcid word <? su.nm && waiter_at word <? su.na && word == named_bits reg.waiter word)

-- ---- one waiter as a window opens, by its need and the word of its holder in force

-- the word of a holder, 0 for nobody
unfoldable pub held_word : List ℕ → Holder → ℕ
held_word active nobody = 0
held_word active (held i) = active ‼ i

-- the reservation gives what it has, all of Rbwb times Q: no other waiter is led to this holder
unfoldable pub own_part : Setup → (word need : ℕ) → ℕ
own_part su word need = min need (reserved word * su.q)

-- the weight by which a waiter shares the pool: its holder's, none where the reservation met the need
unfoldable pub share_weight : Setup → (word need : ℕ) → ℕ
share_weight su word need = if need - own_part su word need == 0 then 0 else weight_of word

-- the smaller of what is still needed and the whole pool times that weight divided by the sum of the weights of all such waiters, rounded down
unfoldable pub pool_part : Setup → (pool weights word need : ℕ) → ℕ
pool_part su pool weights word need = min (need - own_part su word need) (pool * share_weight su word need / weights)

unfoldable pub served_of : Setup → (pool weights word need : ℕ) → Grant
served_of su pool weights word need = record { reserved = own_part su word need; pool = pool_part su pool weights word need }

-- ---- all waiters

-- f over the RCIDs below n under which a request waits, in rising order
unfoldable pub over_waiters : {X : Type 0} → (X → ℕ → X) → List ℕ → X → ℕ → X
over_waiters f waiters x zero = x
over_waiters f waiters x (suc n) =
    let y = over_waiters f waiters x n in
    if waiters ‼ n == 0 then y else f y n

module _ (su : Setup) (active waiters : List ℕ) where
  -- the holder that the waiter of an RCID is led to
  unfoldable pub waiter_holder : ℕ → Holder
  waiter_holder rcid = holder_of su active rcid (waiter_at (waiters ‼ rcid))

  -- the weight of an RCID's waiter, and the sum of the weights below n
  unfoldable pub weight_at : ℕ → ℕ
  weight_at rcid = share_weight su (held_word active (waiter_holder rcid)) (need_at waiters rcid)

  unfoldable pub weights_below : ℕ → ℕ
  weights_below n = over_waiters (λ sum rcid. sum + weight_at rcid) waiters 0 n

  -- both amounts that the waiter of an RCID is served
  unfoldable pub served_at : ℕ → Grant
  served_at rcid = served_of su (pool_of su active) (weights_below su.nr) (held_word active (waiter_holder rcid)) (need_at waiters rcid)

  -- the waiters once those below n were served
  unfoldable pub waiters_served : ℕ → List ℕ
  waiters_served n = over_waiters (λ words rcid. set words rcid (served_word (waiters ‼ rcid) (grant_sum (served_at rcid)))) waiters waiters n
