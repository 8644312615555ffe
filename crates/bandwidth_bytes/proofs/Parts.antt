-- Words of an RCID that were loaded into an array, and are stored back.
use mathlib.Core.Path.{◌≡◌, ap, ◌∙◌}
use mathlib.Core.List.{List}
use Prim.Native.Nat.{ℕ, ◌-◌}
use Rattle.tables.specs.Parts.{RowAt}
use Rattle.words.specs.Words.{bytes_of_all, Holds}
use Rattle.bandwidth_model.specs.Rules.{Setup}
use Rattle.bandwidth_model.specs.Calls.{Grant}
use Rattle.bandwidth_model.specs.Model.{Allocation, write_alloc}
use Rattle.allocation.specs.Allocation.{rcid_of}
use Rattle.bandwidth_settings.specs.View.{Ready}
use Rattle.bandwidth_settings.specs.declared.Written.{Written}
use Rattle.bandwidth_settings.proofs.Rows.{row_write}
use Rattle.bandwidth_grants.specs.Grants.{RowFits, RowGiven}
use Rattle.bandwidth_bytes.specs.View.{Wrote, Stores}

-- what is said of the words is said of the part
module _ {su : Setup} {reserved pool at bytes : ℕ} {a u a' u' : List ℕ} (x : a ≡ a') (y : u ≡ u') where
  pub fits_loaded : RowFits su reserved a' u' pool at bytes → RowFits su reserved a u pool at bytes
  fits_loaded w = rw (x, y) w

  pub given_loaded : {left : List ℕ} {g : Grant} {sum gave : ℕ} → RowGiven su reserved a u pool at bytes left g sum gave → RowGiven su reserved a' u' pool at bytes left g sum gave
  given_loaded w = rw (← x, ← y) w

-- ---- a write to alloc_ctl

-- the row put back is the table that the model leaves
pub alloc_stored : {su : Setup} {configured new : List ℕ} {from to reserved bw v : ℕ} {r : Written} → RowAt su.nr su.na (rcid_of v) from to
    → Wrote su configured from (to - from) reserved bw v new r → (ws : List ℕ) → Holds 4 configured ws → Ready su ws reserved → Stores (write_alloc su bw ws v) r new
alloc_stored {bw = bw} {v = v} p w ws h ready =
    let e = row_write ready bw v p (rw (← h.words_are) at w.written) in
    record {
      ctl_is = ap (λ (a : Allocation). a.ctl) e;
      bw_is = ap (λ (a : Allocation). a.bw) e;
      bytes_are = w.bytes_are (rw (← h.words_are) h.bytes_are) ∙ rw (← h.words_are) (ap (λ (a : Allocation). bytes_of_all 4 a.configured) e);
    }
