-- The operand rules and the operations of alloc_ctl by the configured words of one RCID, one for each AT; sum is what all configured holders reserve.
use Rattle.std.specs.Prelude.{Bool, not, ◌&&◌, ◌||◌, List, ℕ, ◌+◌, ◌-◌, ◌≤◌, if◌then◌else◌, ◌==◌}
use Rattle.tables.specs.Notation.{◌≤?◌, ◌<?◌, ◌‼◌}
use Rattle.tables.specs.Below.{any_below}
use Rattle.fields.specs.Registers as reg
use Rattle.allocation.specs.Allocation.{at_of, alloc_word, operation_status, succeeds, table_after}
use Rattle.codes.specs.declared.Resource.TheVariants.{Bandwidth}
use Rattle.codes.specs.declared.AllocOp.TheVariants.{ReadLimit}
use Rattle.bandwidth_model.specs.Rules.{Setup, rbwb_of, shared_at_of, use_shared_of, stored_form, is_holder, is_sharer, reserved, settled_row}
use Rattle.bandwidth_model.specs.View.{Ranges}
use Rattle.bandwidth_model.specs.Model.{Allocation}

-- useShared 0: bad if Rbwb is 0, or Rbwb plus the Rbwb of every other configured holder exceeds MRBWB
unfoldable pub bad_holder_in : Setup → ℕ → List ℕ → ℕ → ℕ → Bool
bad_holder_in su sum row at word = rbwb_of word == 0 || su.mrbwb <? rbwb_of word + (sum - reserved (row ‼ at))

-- AT b is another than at, and shares it
unfoldable pub shares_in : List ℕ → ℕ → ℕ → Bool
shares_in row at b =
    let word = row ‼ b in
    not (b == at) && is_sharer word && shared_at_of word == at

-- useShared 1: bad if sharedAT is this AT, is at or above NA, or is no holder, or if another AT shares this one
unfoldable pub bad_sharer_in : Setup → List ℕ → ℕ → ℕ → Bool
bad_sharer_in su row at word =
    let b = shared_at_of word in
    b == at || su.na ≤? b || not (is_holder (row ‼ b)) || any_below su.na (shares_in row at)

unfoldable pub bad_operand_in : Setup → ℕ → List ℕ → ℕ → ℕ → Bool
bad_operand_in su sum row at word =
    if use_shared_of word == 0 then bad_holder_in su sum row at word else bad_sharer_in su row at word

-- the fields of a value are stored and its operation is performed on the row of the RCID that it names
unfoldable pub write_row : Setup → ℕ → ℕ → List ℕ → ℕ → Allocation
write_row su sum bw row v =
    let at = at_of su.na v in
    let bad = bad_operand_in su sum row at bw in
    record {
      ctl = alloc_word su.na v reg.idle (operation_status Bandwidth su.nr su.na bad v);
      bw = if succeeds Bandwidth su.nr su.na bad ReadLimit v then row ‼ at else bw;
      configured = table_after Bandwidth su.nr su.na bad row (settled_row row at (stored_form bw)) v;
    }

-- a set-up in range, and a sum of 2048 words of 65535 blocks at most
pub record Reserves (su : Setup) (sum : ℕ) : Type 0 where
  pub ranges : Ranges su
  pub small : sum ≤ 134215680
