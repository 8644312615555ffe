-- What the calls on bytes do to the words that they name.
use Rattle.std.specs.Prelude.{◌≡◌, Result, Ok, Err, List, [], ◌∷◌, ℕ, ◌+◌, ◌*◌, ◌≤◌, length}
use Rattle.words.specs.Words.{bytes_of_all, table_of}
use Rattle.tables.specs.Parts.{part, with_part}
use Rattle.access.specs.declared.Refusal.{Refusal}
use Rattle.bandwidth_settings.specs.View.{allocation}
use Rattle.bandwidth_settings.specs.Rows.{write_row}
use Rattle.bandwidth_settings.specs.declared.Written.{Written}
use Rattle.bandwidth_grants.specs.View.{grant_from}
use Rattle.bandwidth_grants.specs.Grants.{RowFits, RowGiven}
use Rattle.bandwidth_grants.specs.declared.Given.{Given}
use Rattle.bandwidth_grants.specs.declared.Grant.{Grant}
use Rattle.bandwidth_model.specs.Rules.{Setup}
use Rattle.bandwidth_model.specs.Calls.{Call}
use Rattle.bandwidth_model.specs.View.{Requests}
use Rattle.bandwidth_model.specs.Model.{Allocation}
use Rattle.bandwidth_lent.specs.Bytes.{pointers}

-- what a request hands to its two pointers: the bytes granted, 0 on a refusal
abbrev pub amounts_in : Result Grant Refusal → List ℕ
amounts_in (Ok grant) = grant.reserved ∷ grant.pool ∷ []
amounts_in (Err why) = 0 ∷ 0 ∷ []

-- the call is a request with these identifiers, and hands back two numbers
pub record Asks (c : Call) (n rcid mcid at kind bytes : ℕ) : Type 0 where
  pub is : Requests c n rcid mcid at kind bytes
  pub two : pointers c ≡ 2

-- n words of two tables from the word from on, and a request on them that fits
pub record GiveFits (su : Setup) (active used : List ℕ) (from n pool reserved at bytes : ℕ) : Type 0 where
  pub active_in : (from + n) * 4 ≤ length active
  pub used_in : (from + n) * 4 ≤ length used
  pub fits : RowFits su reserved (part from n (table_of 4 active)) (part from n (table_of 4 used)) pool at bytes

-- the used words that the request leaves
pub record Gave (su : Setup) (active used : List ℕ) (from n pool reserved at bytes : ℕ) (new : List ℕ) (r : Given) : Type 0 where
  pub left : List ℕ
  pub given : RowGiven su reserved (part from n (table_of 4 active)) (part from n (table_of 4 used)) pool at bytes left (grant_from r.grant) r.sum r.pool
  pub bytes_are : used ≡ bytes_of_all 4 (table_of 4 used) → new ≡ bytes_of_all 4 (with_part from n (table_of 4 used) left)

-- the configured words that a write to alloc_ctl leaves
pub record Wrote (su : Setup) (configured : List ℕ) (from n reserved bw v : ℕ) (new : List ℕ) (r : Written) : Type 0 where
  pub left : List ℕ
  pub written : allocation r.ctl r.bw left ≡ write_row su reserved bw (part from n (table_of 4 configured)) v
  pub bytes_are : configured ≡ bytes_of_all 4 (table_of 4 configured) → new ≡ bytes_of_all 4 (with_part from n (table_of 4 configured) left)

-- the registers and the bytes of the table are those of a
pub record Stores (a : Allocation) (r : Written) (configured : List ℕ) : Type 0 where
  pub ctl_is : r.ctl ≡ a.ctl
  pub bw_is : r.bw ≡ a.bw
  pub bytes_are : configured ≡ bytes_of_all 4 a.configured
