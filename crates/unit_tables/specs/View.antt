-- What checks 1, 3 and 7 leave, and what check 3 computes of each owner.
use Rattle.std.specs.Prelude.{List, ℕ, ◌+◌, ◌≤◌, ◌<◌, T, get_or}
use Rattle.std.specs.Int.Bits.{bit_and}
use Rattle.fields.specs.Registers as reg
use Rattle.monitor.specs.Monitor.{counter_ok}

-- how many RCIDs, MCIDs and ATs there are
pub record Limits (nr nm na : ℕ) : Type 0 where
  pub nr_low : 1 ≤ nr
  pub nr_high : nr ≤ 256
  pub nm_low : 1 ≤ nm
  pub nm_high : nm ≤ 256
  pub na_low : 1 ≤ na
  pub na_high : na ≤ 8

-- identifiers that fit the word of an owner
pub record Identifiers (rcid mcid at : ℕ) : Type 0 where
  pub rcid_low : rcid < 256
  pub mcid_low : mcid < 256
  pub at_low : at < 8

-- every counter is well formed
pub record CountersOk (w : ℕ) (counters : List ℕ) : Type 0 where
  pub w_high : w ≤ 62
  pub all : (i : ℕ) → T (counter_ok reg.capacity_counter reg.capacity_ctr w (get_or counters i 0))

-- RCID and AT with k added; where k is what lacks to the end of each field, one out of range carries into the bit above it
unfoldable pub rcid_at_plus : ℕ → ℕ → ℕ
rcid_at_plus k owner = bit_and owner 0x700ff + k

-- the MCID likewise
unfoldable pub mcid_plus : ℕ → ℕ → ℕ
mcid_plus k owner = bit_and owner 0xff00 + k

-- the low 20 bits with the mark of an owner turned, and what lacks from it to bit 20 added: those of a word that is neither 0 nor owned carry into bit 20
unfoldable pub mark_plus : ℕ → ℕ
mark_plus owner = bit_and (bit_and owner 0xfffff + 0x80000) 0xfffff + 0x7ffff
