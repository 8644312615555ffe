-- Block masks as the code has them: no bit NCBLKS or above, tested over all masks at once, the operation of alloc_ctl, and the masks of a reset.
use mathlib.Core.Path.{◌≡◌, refl, sym, ap, ◌∙◌}
use mathlib.Core.Bool.{cond}
use mathlib.Core.List.{List, [], ◌∷◌, ◌++◌}
use Prim.Native.Nat.{ℕ, ◌-◌, ◌*◌, ◌%◌, ◌^◌, ◌≤◌, ◌<◌}
use native.Mathlib.Nat.{mod-eq_of_lt, mod-lt, lt_of_lt_of_le, div-lt_iff_lt-mul}
use native.Mathlib.Omega.{arith}
use lib.Dec.{leb, ltb, eqb, leb→le, le→leb, ltb→lt, lt→ltb, eqb→eq}
use lib.ListN.{drop, replicate}
use lib.Pow.{pow_pos}
use Rattle.tables.specs.Below.{all_below}
use Rattle.tables.specs.View.{union_below, Small}
use Rattle.tables.proofs.Tests.{eqb_in, same_test}
use Rattle.tables.proofs.Laws.{all_same, drop_replicate}
use Rattle.tables.proofs.Union.{low_test, union_low}
use Rattle.fields.specs.Layout.{pack}
use Rattle.fields.specs.Registers.{alloc_ctl}
use Rattle.fields.specs.declared.AllocCtl.{AllocCtl}
use Rattle.access.specs.Pairs.{word_at}
use Rattle.access.proofs.Pairs.{rows}
use Rattle.allocation.specs.Allocation as allocation
use Rattle.allocation.specs.View.{AllocFields, sets, reads, flushes, EffectOf}
use Rattle.allocation.specs.declared.Effect.{Effect}
use Rattle.codes.specs.declared.Resource.TheVariants.{Capacity}
use Rattle.monitor.proofs.Steps.{put_back}
use Rattle.capacity_model.specs.Rules.{Setup, pairs, unit_count, block_of, mask_of, all_blocks, reset_masks, bad_mask}
use Rattle.capacity_model.specs.View.{Ranges}
use Rattle.capacity_model.specs.Model.{write_alloc}
use Rattle.capacity_masks.specs.Words.{AllocAfter}
use Rattle.capacity_masks.specs.declared.AllocWords.{AllocWords}

-- at most all ones, or below the next power of 2
ones_test : (k x : ℕ) → leb x (2 ^ k - 1) ≡ ltb x (2 ^ k)
ones_test k x =
    same_test (leb x (2 ^ k - 1)) (ltb x (2 ^ k)) (λ t. lt→ltb x (2 ^ k) (omega (arith, pow_pos k, leb→le x (2 ^ k - 1) t)))
    (λ t. le→leb x (2 ^ k - 1) (omega (arith, ltb→lt x (2 ^ k) t)))

-- a mask below 2^NCBLKS is kept as it is
held_test : (su : Setup) (x : ℕ) → ltb x (2 ^ su.ncblks) ≡ eqb x (mask_of su x)
unfolding mask_of
held_test su x =
    let end = 2 ^ su.ncblks in
    same_test (ltb x end) (eqb x (x % end)) (λ t. eqb_in x (x % end) (sym (mod-eq_of_lt (ltb→lt x end t))))
    (λ t. lt→ltb x end (low (eqb→eq x (x % end) t)))
  where
    low : x ≡ x % 2 ^ su.ncblks → x < 2 ^ su.ncblks
    low e = rw e (mod-lt x (pow_pos su.ncblks))

pub masks_test : (su : Setup) (n : ℕ) (f : ℕ → ℕ) → leb (union_below n f) (all_blocks su) ≡ all_below n (λ i. eqb (f i) (mask_of su (f i)))
unfolding all_blocks
masks_test su n f =
    let k = su.ncblks in
    ones_test k (union_below n f) ∙ sym (low_test k (union_below n f)) ∙ union_low k n f ∙ all_same n _ _ (λ i l. held_test su (f i))

-- the operation of alloc_ctl, from what each step gives of the mask of the pair that it names
module _ (su : Setup) (v operand mask st : ℕ) (effect : Effect) (f : AllocCtl) (x : AllocWords) (g : AllocFields su.na v f)
    (s : Small (allocation.operation_status Capacity su.nr su.na (eqb operand 0) v) 5 st) (d : EffectOf Capacity f.op st effect) where
  pub alloc_words : x.ctl ≡ pack alloc_ctl (0 ∷ st ∷ f.rcid ∷ f.at ∷ f.op ∷ []) → x.operand ≡ cond (reads effect) mask operand → x.mask ≡ cond (sets effect) operand mask
      → x.flushes ≡ flushes effect → AllocAfter su operand mask v x
  unfolding write_alloc allocation.alloc_word bad_mask allocation.operand_after allocation.table_after allocation.succeeds allocation.performs word_at
  alloc_words c o m k = record {
    words = λ masks e. rw (m, o, d.sets_is, d.reads_is, c, e, s.is, g.op_is, g.at_is, g.rcid_is, put_back) refl;
    flushes_is = rw (k, d.flushes_is, s.is, g.op_is) refl;
  }

-- 0 everywhere, then every block for RCID 0
pub reset_words : (su : Setup) → 1 ≤ su.nr → replicate su.na (all_blocks su) ++ drop su.na (replicate (pairs su) 0) ≡ reset_masks su
unfolding reset_masks pairs
reset_words su h =
    let rest : su.nr * su.na - su.na ≡ (su.nr - 1) * su.na = omega (arith, rows su.nr su.na h) in
    ap (λ (l : List ℕ). replicate su.na (all_blocks su) ++ l)
    (drop_replicate su.na (su.nr * su.na) 0 ∙ ap (λ (k : ℕ). replicate k 0) rest)

-- the row of RCID 0 lies in the table
pub first_inside : (su : Setup) → 1 ≤ su.nr → su.na ≤ pairs su
unfolding pairs
first_inside su h = omega (arith, rows su.nr su.na h)

-- the block of a unit is one of NCBLKS
pub block_in : (su : Setup) (unit : ℕ) → Ranges su → unit < unit_count su → block_of su unit < 64
unfolding block_of unit_count
block_in su unit r l = lt_of_lt_of_le ((div-lt_iff_lt-mul r.units_low).1 l) r.ncblks_high
