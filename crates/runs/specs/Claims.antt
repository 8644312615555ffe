-- What is claimed of both controllers alike: of the state and of notes of calls and answers, after any list of calls that an accepted reset opens.
use Rattle.std.specs.Prelude.{◌≡◌, Bool, not, ◌&&◌, ◌||◌, List, [], ◌∷◌, ◌↔◌, ℕ, ◌*◌, ◌<◌, T, get_or, if◌then◌else◌, ◌==◌}
use mathlib.Core.List.{Memᴰ}
use Rattle.tables.specs.Notation.{◌≤?◌, ◌‼◌}
use Rattle.fields.specs.Layout.{unpack}
use Rattle.fields.specs.Registers as reg
use Rattle.access.specs.declared.Refusal.TheVariants.{State}
use Rattle.access.specs.Refusals.{number_of}
use Rattle.access.specs.Checks.{Check, first, Kind, resets, writes, other, is_reset, Rows}
use Rattle.access.specs.Access as access
use Rattle.access.specs.Pairs.{Setting, of_pair, any_of}
use Rattle.allocation.specs.Allocation.{op_of, rcid_of, at_of, status_of, alloc_word, invalid_op, performs, operation_status}
use Rattle.codes.specs.declared.Resource.{Resource}
use Rattle.codes.specs.declared.AllocOp.TheVariants.{ConfigLimit, ReadLimit, FlushRcid}
use Rattle.codes.specs.declared.MonOp.TheVariants.{ConfigEvent}
use Rattle.monitor.specs.Monitor as mon
use Rattle.monitor.specs.Tally.{Counter, Tally}
use Rattle.runs.specs.Runs.{Event, event, after, events, untouched, Keeper, TallyKeeper, Machine, step_of, note_of, note_after, Always}

-- what the claims ask of a ledger of type L, with settings of type X
pub record Book (S U C A L X : Type 0) : Type 0 where
  pub keeper : Keeper U C A L
  -- whose tables of operations and events it has
  pub resource : Resource
  -- NA; capabilities; bw_alloc or block_mask
  pub na : L → ℕ
  pub capabilities : L → ℕ
  pub operand : L → ℕ
  -- the checks of a call, and the STATUS of what a value written to alloc_ctl or mon_ctl performs
  pub checks_by : L → C → List Check
  pub status_by : L → ℕ → ℕ
  pub mon_status_by : L → ℕ → ℕ
  -- the settings that an accepted call makes, by the ledger as it stood before the call
  pub settings_by : L → C → List (Setting X)
  -- the value of a pair in a state, by the set-up of this ledger; the word of a value, as READ_LIMIT copies it
  pub value_at : L → S → ℕ → ℕ → X
  pub word_of : X → ℕ

-- a part of what a setting stores; ends q p: the setting q ends that part of the setting p
pub record Part (X : Type 0) : Type 0 where
  pub of : X → X
  pub ends : Setting X → Setting X → Bool

-- all of it, which ends where its pair is set again
abbrev pub whole : {X : Type 0} → Part X
whole = record { of = λ x. x; ends = λ q p. of_pair p.rcid p.at q }

module _ {S U C A : Type 0} (m : Machine S U C A) where
  -- ---- refusals

  -- an answer refuses a call by the first of its checks that fails, and by no other number; it accepts the call where none fails, and only there
  pub record Decided (checks : List Check) (answer : A) : Type 0 where
    pub refuses : (n : ℕ) → (answer ≡ m.refused n) ↔ ((0 < n) × (first checks 0 ≡ n))
    pub accepts : T (m.accepted answer) ↔ (first checks 0 ≡ 0)

  -- in the state s, which passes checks 1 to 3, and where a call has these of its own
  pub record Answered (checks : C → List Check) (s : S) : Type 0 where
    -- a call is decided by its own checks
    pub calls : (c : C) → T (not (is_reset (m.kind_of c))) → Decided (checks c) (step_of m s c).answer
    -- a reset by its set-up and the lengths of the tables
    pub resets : (u : U) → Decided (m.setup_checks u s) (step_of m s (m.reset u)).answer
    -- refusal 3 never comes
    pub never3 : (c : C) → (step_of m s c).answer ≡ m.refused (number_of State) → ⊥

  -- ---- registers

  -- every accepted read of a register in the state s, whole or either half, is that part of the word
  abbrev pub Reads : S → ℕ → ℕ → Type 0
  Reads s register word =
      (size offset v : ℕ) → access.register_at offset ≡ register → (step_of m s (m.read size offset)).answer ≡ m.value v → v ≡ access.part size offset word

  -- a write of v to a control register is accepted in the state s, and a read of the register then gives x
  pub record Shows (s : S) (register size v x : ℕ) : Type 0 where
    pub written : T (m.accepted (step_of m s (m.write size (8 * register) v)).answer)
    pub read : (step_of m (step_of m s (m.write size (8 * register) v)).state (m.read 8 (8 * register))).answer ≡ m.value x

  -- ---- counters

  -- the state s, with its table of counters, and the tally t
  pub record Counted {K : Type 0} (r : Counter U K) (table : S → List ℕ) (s : S) (t : Tally U K) : Type 0 where
    -- each counter holds its count
    pub counters : (i : ℕ) → i < r.nm t.setup → table s ‼ i ≡ r.word t.setup (get_or t.counts i r.none)
    -- mon_ctr_val shows the counter that READ_COUNTER named last
    pub reads : Reads s access.mon_ctr_val t.shown

-- ---- the notes behind the registers: ledger, tally and the two control registers
pub record Notes (L N : Type 0) : Type 0 where
  pub ledger : L
  pub tally : N
  pub alloc_ctl : ℕ
  pub mon_ctl : ℕ

-- a control register after an accepted call: the word of the operation that a write of its low half performs, 0 after a reset
unfoldable pub control_after : {U : Type 0} → ℕ → (ℕ → ℕ) → ℕ → Kind U → ℕ
control_after register word ctl (resets u) = 0
control_after register word ctl (writes size offset v) = if access.writes_low offset register then word v else ctl
control_after register word ctl other = ctl

module _ {S U C A L X : Type 0} (m : Machine S U C A) (b : Book S U C A L X) where
  -- a control register holds the fields of the value written, the STATUS and BUSY 0
  unfoldable pub notes : {K : Type 0} → TallyKeeper U C A L (Tally U K) → Keeper U C A (Notes L (Tally U K))
  notes t = record {
    start = λ u. record { ledger = b.keeper.start u; tally = t.start u; alloc_ctl = 0; mon_ctl = 0 };
    note_call = λ n c a. record {
      ledger = b.keeper.note_call n.ledger c a;
      tally = t.note_call n.ledger n.tally c a;
      alloc_ctl = control_after access.alloc_ctl (λ v. alloc_word (b.na n.ledger) v reg.idle (b.status_by n.ledger v)) n.alloc_ctl (m.kind_of c);
      mon_ctl = control_after access.mon_ctl (λ v. mon.mon_word (b.na n.ledger) v reg.idle (b.mon_status_by n.ledger v)) n.mon_ctl (m.kind_of c);
    };
  }

  -- the words that the registers hold by the notes
  abbrev pub registers_by : {K : Type 0} → Notes L (Tally U K) → access.RegisterFile
  registers_by n = record
      { capabilities = b.capabilities n.ledger; mon_ctl = n.mon_ctl; mon_ctr_val = n.tally.shown; alloc_ctl = n.alloc_ctl; operand = b.operand n.ledger }

  -- ---- settings, and what ends one

  -- the settings of an event, none where it is refused
  unfoldable pub settings : L → Event C A → List (Setting X)
  settings l e = if m.accepted e.answer then b.settings_by l e.call else []

  -- every accepted read of bw_alloc or block_mask in the state s is that of a value whose part is that of x
  pub record ReadsPart (part : Part X) (s : S) (x : X) : Type 0 where
    pub value : X
    pub same : part.of value ≡ part.of x
    pub reads : Reads m s access.operand (b.word_of value)

  module _ (part : Part X) where
    -- the event ends that part of the setting p, or is an accepted reset
    unfoldable pub touches : Setting X → L → Event C A → Bool
    touches p l e = (m.accepted e.answer && is_reset (m.kind_of e.call)) || any_of (λ q. part.ends q p) (settings l e)

    -- it stands of the setting p, made by the call c on the state s with the ledger l, after the calls between
    pub record Stands (s : S) (l : L) (c : C) (between : List C) (p : Setting X) : Type 0 where
      pub made : Memᴰ p (settings l (event (step_of m) s c))
      pub lasts : T (untouched (note_of m b.keeper) (touches p) (note_of m b.keeper l (event (step_of m) s c)) (events (step_of m) (step_of m s c).state between))

    -- where it stands
    pub record Lasting (s : S) (l : L) : Type 0 where
      -- the pair's value has it
      pub kept : (c : C) (between : List C) (p : Setting X) → Stands s l c between p
          → part.of (b.value_at l (after (step_of m) s (c ∷ between)) p.rcid p.at) ≡ part.of p.value
      -- and it reads back through a READ_LIMIT and a read of bw_alloc or block_mask
      pub read_back : (c : C) (between : List C) (p : Setting X) (size v : ℕ) → Stands s l c between p
          → T (performs b.resource ReadLimit v) → rcid_of v ≡ p.rcid → at_of (b.na l) v ≡ p.at
          → T (m.accepted (step_of m (after (step_of m) s (c ∷ between)) (m.write size (8 * access.alloc_ctl) v)).answer)
          → ReadsPart part (step_of m (after (step_of m) s (c ∷ between)) (m.write size (8 * access.alloc_ctl) v)).state p.value

  -- ---- the claims
  pub record Answering : Type 0 where
    -- the reset that opens a list, on any record and tables: with a set-up in range and tables of its lengths it is accepted
    pub opens : (s : S) (u : U) → Decided m (m.setup_checks u s) (step_of m s (m.reset u)).answer
    pub always : Always m b.keeper (λ s l. Answered m (b.checks_by l) s)

  -- the state s and the notes n
  pub record RegisterReads {K : Type 0} (s : S) (n : Notes L (Tally U K)) : Type 0 where
    -- every register holds its word by the notes
    pub reads : (register : ℕ) → Reads m s register (access.word_of (registers_by n) register)
    -- alloc_ctl, read after an operation: BUSY 0, its STATUS and the fields written
    pub alloc : (size v x : ℕ) → Shows m s access.alloc_ctl size v x
        → unpack reg.alloc_ctl x ≡ reg.idle ∷ b.status_by n.ledger v ∷ rcid_of v ∷ at_of (b.na n.ledger) v ∷ op_of v ∷ []
    -- the ledger takes the write for a setting of its pair exactly where CONFIG_LIMIT with STATUS 1 is read
    pub set : (size v x : ℕ) → Shows m s access.alloc_ctl size v x
        → T (any_of (of_pair (rcid_of x) (at_of (b.na n.ledger) x)) (settings n.ledger (event (step_of m) s (m.write size (8 * access.alloc_ctl) v))))
        ↔ (T (performs b.resource ConfigLimit x) × (status_of x ≡ 1))
    -- mon_ctl, read after an operation: BUSY 0, its STATUS and the fields written
    pub mon : (size v x : ℕ) → Shows m s access.mon_ctl size v x
        → unpack reg.mon_ctl x ≡ reg.idle ∷ b.mon_status_by n.ledger v ∷ mon.atv_of (b.na n.ledger) v ∷ mon.event_of v ∷ mon.mcid_of v
        ∷ mon.at_of (b.na n.ledger) v ∷ mon.op_of v ∷ []

  pub record AllRegisterReads {K : Type 0} (t : TallyKeeper U C A L (Tally U K)) : Type 0 where
    pub always : Always m (notes t) RegisterReads
    -- the notes' ledger is the ledger
    pub ledger : (s : S) (u : U) (cs : List C) → (note_after m (notes t) s u cs).ledger ≡ note_after m b.keeper s u cs

  -- the counters, by the tally of the notes
  pub record AllCounted {K : Type 0} (t : TallyKeeper U C A L (Tally U K)) (r : Counter U K) (table : S → List ℕ) : Type 0 where
    pub always : Always m (notes t) (λ s n. Counted m r table s n.tally)

-- ---- STATUS: each under its own condition and no other
pub record Statuses (resource : Resource) : Type 0 where
  pub alloc : (nr na : ℕ) (bad : Bool) (v : ℕ)
      → Rows (invalid_op resource (op_of v)) (nr ≤? rcid_of v) (not (performs resource FlushRcid v) && na ≤? at_of na v) (performs resource ConfigLimit v && bad)
      (operation_status resource nr na bad v)
  pub monitor : (na nm v : ℕ)
      → Rows (mon.invalid_op (mon.op_of v)) (nm ≤? mon.mcid_of v) (mon.performs ConfigEvent v && mon.unknown_event resource (mon.event_of v))
      (mon.performs ConfigEvent v && mon.atv_of na v == 1 && na ≤? mon.at_of na v) (mon.mon_status na nm resource v)
