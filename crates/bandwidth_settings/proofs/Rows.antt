-- What is judged and done by the configured words of one RCID is what the model does on the whole table.
use mathlib.Core.Path.{◌≡◌, refl, ap, ◌∙◌}
use mathlib.Core.Bool.{Bool, true, false, not, cond, ◌&&◌, ◌||◌}
use mathlib.Core.List.{List, [], ◌∷◌}
use Prim.Native.Nat.{ℕ, zero, suc, ◌+◌, ◌-◌, ◌≤◌, ◌<◌}
use native.Mathlib.Nat.{mul-le-mul}
use native.Mathlib.Omega.{arith}
use lib.Dec.{T, leb, eqb, nleb→lt}
use lib.ListN.{length, get_or, set}
use Rattle.tables.specs.Below.{any_below, sum_of}
use Rattle.tables.specs.Parts.{part, with_part, RowAt}
use Rattle.tables.proofs.Tests.{cases, not_in, is_false}
use Rattle.tables.proofs.Laws.{sum_le}
use Rattle.tables.proofs.Parts.{part_at, part_same, part_set}
use Rattle.access.specs.Checks.{◌gives◌, first}
use Rattle.access.specs.Pairs.{pair, word_at}
use Rattle.allocation.specs.Allocation.{op_of, rcid_of, at_of, invalid_op, performs, operation_status, succeeds, table_after, operand_after}
use Rattle.codes.specs.Codes.{◌has◌, no_code, alloc_ops}
use Rattle.codes.specs.declared.Resource.TheVariants.{Bandwidth}
use Rattle.codes.specs.declared.AllocOp.{AllocOp}
use Rattle.codes.specs.declared.AllocOp.TheVariants.{ConfigLimit, ReadLimit, FlushRcid}
use Rattle.codes.proofs.Rows.{first_le, le_last}
use Rattle.allocation.proofs.Operations.{done_pair}
use Rattle.bandwidth_model.specs.Rules.{Setup, pairs, shared_at_of, is_holder, stored_form, reserved, total, bad_holder, shares, bad_sharer, bad_operand, bad_limit, limit_of, settled_row, settled, configured_after, bw_after}
use Rattle.bandwidth_model.specs.Model.{Allocation, write_alloc}
use Rattle.bandwidth_model.proofs.Words.{reserved_0, reserved_le}
use Rattle.bandwidth_model.proofs.Settings.{total_set, place_inside}
use Rattle.bandwidth_settings.specs.View.{allocation, Ready}
use Rattle.bandwidth_settings.specs.Rows.{bad_holder_in, shares_in, bad_sharer_in, bad_operand_in, write_row, Reserves}

-- ---- the words of an RCID that is there

module _ {nr na rcid from to : ℕ} (w : RowAt nr na rcid from to) (hr : rcid < nr) (table : List ℕ) (at : ℕ) (ha : at < na) where
  inside : at < to - from
  inside = rw (w.long hr) ha

  pub row_word : get_or (part from (to - from) table) at 0 ≡ word_at na table rcid at
  unfolding word_at pair
  row_word = part_at table from (to - from) at inside ∙ ap (λ (i : ℕ). get_or table (i + at) 0) (w.from_is hr)

  pub row_set : (v : ℕ) → with_part from (to - from) table (set (part from (to - from) table) at v) ≡ set table (pair na rcid at) v
  unfolding pair
  row_set v = part_set table from (to - from) at v inside ∙ ap (λ (i : ℕ). set table (i + at) v) (w.from_is hr)

-- a row ends within the table
pub row_end : (su : Setup) (table : List ℕ) {rcid from to : ℕ} → length table ≡ pairs su → RowAt su.nr su.na rcid from to → to ≤ length table
unfolding pairs
row_end su table e w = omega (arith, e, w.inside)

-- ---- the operand rules

any_same : (n : ℕ) (p q : ℕ → Bool) → ((k : ℕ) → k < n → p k ≡ q k) → any_below n p ≡ any_below n q
unfolding any_below
any_same zero p q h = refl
any_same (suc n) p q h = rw (any_same n p q (λ k b. h k (omega arith)), h n (omega arith))

-- whether sharedAT is a holder counts only where it lies below NA
holder_asked : (own high x y shared : Bool) → (T (not high) → x ≡ y) → (own || high || not x || shared) ≡ (own || high || not y || shared)
holder_asked true high x y shared h = refl
holder_asked false true x y shared h = refl
holder_asked false false x y shared h = rw (h tt) refl

module _ {su : Setup} {table : List ℕ} {sum rcid from to : ℕ} (r : Ready su table sum) (w : RowAt su.nr su.na rcid from to) (hr : rcid < su.nr)
    (at word : ℕ) (ha : at < su.na) where
  abbrev words : List ℕ
  words = part from (to - from) table

  -- every other holder's blocks
  others : sum - reserved (word_at su.na table rcid at) ≡ total (set table (pair su.na rcid at) 0)
  unfolding word_at
  others = omega (arith, r.sum, total_set table (pair su.na rcid at) 0 (place_inside su table r.long rcid at hr ha), reserved_0)

  holder_same : bad_holder_in su sum words at word ≡ bad_holder su table rcid at word
  unfolding bad_holder_in bad_holder
  holder_same = rw (row_word w hr table at ha, others) refl

  sharer_same : bad_sharer_in su words at word ≡ bad_sharer su table rcid at word
  unfolding bad_sharer_in bad_sharer shares_in shares
  sharer_same =
      let b = shared_at_of word in
      let shared = any_same su.na (shares_in words at) (shares su table rcid at) (λ k l. rw (row_word w hr table k l) refl) in
      rw (← shared) (holder_asked (eqb b at) (leb su.na b) (is_holder (get_or words b 0)) (is_holder (word_at su.na table rcid b)) (any_below su.na (shares_in words at))
      (λ n. ap is_holder (row_word w hr table b (nleb→lt su.na b n))))

  -- the operand rules by the row
  pub row_operand : bad_operand_in su sum words at word ≡ bad_operand su table rcid at word
  unfolding bad_operand_in bad_operand
  row_operand = rw (holder_same, sharer_same) refl

-- ---- the operations

no_flush : (v : ℕ) → performs Bandwidth FlushRcid v ≡ false
unfolding performs alloc_ops
no_flush v = is_false (no_code has op_of v) (not_in (no_code has op_of v) (λ t. omega (arith, first_le no_code (op_of v) t, le_last no_code (op_of v) t)))

-- a bad operand counts only where the pair is there
status_by : (nr na v : ℕ) (x y : Bool) → (rcid_of v < nr → at_of na v < na → x ≡ y) → operation_status Bandwidth nr na x v ≡ operation_status Bandwidth nr na y v
unfolding operation_status
status_by nr na v x y h = rw (no_flush v) (by (invalid_op Bandwidth (op_of v)) (leb nr (rcid_of v)) (leb na (at_of na v)) (nleb→lt nr (rcid_of v)) (nleb→lt na (at_of na v)))
  where
    by : (invalid high over : Bool) → (T (not high) → rcid_of v < nr) → (T (not over) → at_of na v < na)
        → first ((invalid gives 2) ∷ (high gives 3) ∷ (over gives 4) ∷ ((performs Bandwidth ConfigLimit v && x) gives 5) ∷ []) 1
        ≡ first ((invalid gives 2) ∷ (high gives 3) ∷ (over gives 4) ∷ ((performs Bandwidth ConfigLimit v && y) gives 5) ∷ []) 1
    by invalid true over f g = refl
    by invalid false true f g = refl
    by invalid false false f g = rw (h (f tt) (g tt)) refl

module _ {su : Setup} {table : List ℕ} {sum : ℕ} (r : Ready su table sum) where
  -- 2048 words of 65535 blocks
  pub row_reserves : Reserves su sum
  unfolding total sum_of pairs
  row_reserves = record {
    ranges = r.ranges;
    small = omega (
      arith,
      r.long,
      r.sum,
      mul-le-mul r.ranges.nr_high r.ranges.na_high,
      sum_le (length table) 65535 (λ i. reserved (get_or table i 0)) (λ i l. reserved_le (get_or table i 0)),
    );
  }

  module _ (bw v : ℕ) {from to : ℕ} (w : RowAt su.nr su.na (rcid_of v) from to) where
    abbrev named : List ℕ
    named = part from (to - from) table

    abbrev bad : Bool
    bad = bad_operand_in su sum named (at_of su.na v) bw

    status_same : operation_status Bandwidth su.nr su.na bad v ≡ operation_status Bandwidth su.nr su.na (bad_limit su table bw v) v
    unfolding bad_limit
    status_same = status_by su.nr su.na v bad (bad_limit su table bw v) (λ hr ha. row_operand r w hr (at_of su.na v) bw ha)

    done_same : (op : AllocOp) → succeeds Bandwidth su.nr su.na bad op v ≡ succeeds Bandwidth su.nr su.na (bad_limit su table bw v) op v
    unfolding succeeds
    done_same op = rw status_same refl

    -- READ_LIMIT copies the table's word
    read_same : cond (succeeds Bandwidth su.nr su.na bad ReadLimit v) (get_or named (at_of su.na v) 0) bw ≡ bw_after su table bw v
    unfolding operand_after
    read_same = rw (done_same ReadLimit)
        (cases (λ d. cond d (get_or named (at_of su.na v) 0) bw ≡ cond d (word_at su.na table (rcid_of v) (at_of su.na v)) bw) (succeeds Bandwidth su.nr su.na (bad_limit su table bw v) ReadLimit v)
        (λ t. let p = done_pair Bandwidth su.nr su.na (bad_limit su table bw v) v ReadLimit t tt in row_word w p.rcid_low table (at_of su.na v) p.at_low) (λ n. refl))

    -- CONFIG_LIMIT settles the table's row
    table_same : with_part from (to - from) table (table_after Bandwidth su.nr su.na bad named (settled_row named (at_of su.na v) (stored_form bw)) v) ≡ configured_after su table bw v
    unfolding table_after settled
    table_same = rw (done_same ConfigLimit)
        (cases (λ d. with_part from (to - from) table (cond d (settled_row named (at_of su.na v) (stored_form bw)) named) ≡ cond d (settled su table (limit_of su bw v)) table) (succeeds Bandwidth su.nr su.na (bad_limit su table bw v) ConfigLimit v)
        (λ t. let p = done_pair Bandwidth su.nr su.na (bad_limit su table bw v) v ConfigLimit t tt in rw (w.long p.rcid_low, w.from_is p.rcid_low) refl) (λ n. part_same table from (to - from)))

    -- the write to alloc_ctl by the row
    pub row_write : {ctl left-bw : ℕ} {left : List ℕ} → allocation ctl left-bw left ≡ write_row su sum bw named v
        → allocation ctl left-bw (with_part from (to - from) table left) ≡ write_alloc su bw table v
    unfolding write_row write_alloc
    row_write e =
        rw (ap (λ (a : Allocation). a.ctl) e, ap (λ (a : Allocation). a.bw) e, ap (λ (a : Allocation). a.configured) e, status_same, read_same, table_same) refl
