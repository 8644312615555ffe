-- What is claimed of the capacity controller after any list of calls that an accepted reset opens, by the ledger.
use Rattle.std.specs.Prelude.{◌≡◌, Bool, List, ℕ}
use Rattle.tables.specs.Notation.{◌‼◌}
use Rattle.runs.specs.Runs.{Machine, step_of, Always}
use Rattle.runs.specs.Claims.{Book, whole, Reads, AllCounted, Lasting}
use Rattle.runs.specs.ByNumber as number
use Rattle.access.specs.Access as access
use Rattle.access.specs.Checks as checks
use Rattle.fields.specs.Registers as reg
use Rattle.access.specs.Pairs.{word_at, with_setting, known_at}
use Rattle.allocation.specs.Allocation.{alloc_word}
use Rattle.monitor.specs.Monitor.{mon_status}
use Rattle.codes.specs.declared.Resource.TheVariants.{Capacity}
use Rattle.capacity_model.specs.Rules.{Setup, block_of, has_block, bad_mask, limit_of, alloc_status}
use Rattle.capacity_model.specs.Calls.{Call, kind_of, reset, read, write, fill, evict, Answer, refused, value, allowed}
use Rattle.capacity_model.specs.Model.{State, setup_checks, argument_checks, capabilities, write_alloc, refusal, perform}
use Rattle.capacity_model.specs.Ledger.{Ledger, accepted, started, note_call, settings_by, counter, tally}

-- ---- what the claims speak of
abbrev pub controller : Machine State Setup Call Answer
controller = record {
  refusal = refusal;
  perform = perform;
  reset = reset;
  read = read;
  write = write;
  kind_of = kind_of;
  refused = refused;
  value = value;
  accepted = accepted;
  setup_checks = setup_checks;
}

abbrev pub is_reset : Call → Bool
is_reset c = checks.is_reset (kind_of c)

-- what the ledger works out from its own masks
abbrev pub book : Book State Setup Call Answer Ledger ℕ
book = record {
  keeper = record { start = started; note_call = note_call };
  resource = Capacity;
  na = λ l. l.setup.na;
  capabilities = λ l. capabilities l.setup;
  operand = λ l. l.mask;
  checks_by = λ l c. argument_checks l.setup c;
  status_by = λ l v. alloc_status l.setup l.mask v;
  mon_status_by = λ l v. mon_status l.setup.na l.setup.nm Capacity v;
  settings_by = settings_by;
  value_at = λ l s. word_at l.setup.na s.alloc.masks;
  word_of = λ mask. mask;
}

-- ---- masks and owners; the state s and the ledger l
pub record Claim (s : State) (l : Ledger) : Type 0 where
  -- all masks are the ledger's, and so is block_mask as it is read
  pub masks : s.alloc.masks ≡ l.masks
  pub reads : Reads controller s access.operand l.mask
  -- a fill is allowed exactly where the pair's mask, by the ledger, has the unit's block
  pub fills : (rcid mcid at unit : ℕ) (b : Bool) → (step_of controller s (fill rcid mcid at unit)).answer ≡ allowed b
      → b ≡ has_block (word_at l.setup.na l.masks rcid (known_at l.setup.na at)) (block_of l.setup unit)
  -- the owner of every unit is the ledger's
  pub owners : s.owners ≡ l.owners
  -- an eviction of a free unit changes nothing
  pub free : (unit : ℕ) → l.owners ‼ unit ≡ 0 → (step_of controller s (evict unit)).state ≡ s
  -- an accepted mask that stands is in the table, and reads back
  pub settings : Lasting controller book whole s l

pub record Claims : Type 0 where
  pub always : Always controller book.keeper Claim

-- ---- counters: each holds its count, value and flag
abbrev pub Counting : Type 0
Counting = AllCounted controller book tally counter (λ s. s.monitor.counters)

-- ---- what a write to alloc_ctl leaves, for every set-up, table, block_mask and value, is what the decisions by numbers leave
abbrev pub AllocByNumber : Type 0
AllocByNumber =
    (su : Setup) (mask : ℕ) (masks : List ℕ) (v : ℕ)
    → (let bad = bad_mask mask in
    write_alloc su mask masks v ≡ record {
      ctl = alloc_word su.na v reg.idle (number.operation_status Capacity su.nr su.na bad v);
      mask = number.operand_after Capacity su.nr su.na bad masks mask v;
      masks = number.table_after Capacity su.nr su.na bad masks (with_setting su.na masks (limit_of su mask v)) v;
    })
