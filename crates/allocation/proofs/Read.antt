-- alloc_ctl as it is read after an operation: its fields, and what its OP and STATUS tell of the setting.
use mathlib.Core.Path.{◌≡◌, refl, sym, ap, ◌∙◌}
use mathlib.Core.Bool.{Bool, true, false, cond, ◌&&◌}
use mathlib.Core.List.{List, [], ◌∷◌}
use mathlib.Core.Logic.{◌↔◌}
use Prim.Native.Nat.{ℕ}
use lib.Dec.{T, eqb, eqb→eq}
use lib.ListN.{get_or}
use Rattle.fields.specs.Layout.{unpack}
use Rattle.fields.specs.Registers.{alloc_ctl, held_at}
use Rattle.fields.proofs.Registers.{alloc_ctl_fields, held_held}
use Rattle.tables.proofs.Tests.{and_l, and_r, and_in, eqb_in, or_l}
use Rattle.access.specs.Pairs.{Setting, of_pair, any_of}
use Rattle.codes.specs.declared.Resource.{Resource}
use Rattle.codes.specs.declared.AllocOp.TheVariants.{ConfigLimit}
use Rattle.allocation.specs.Allocation.{performs, op_of, rcid_of, at_of, status_of, alloc_word, operation_status, succeeds}
use Rattle.allocation.proofs.Operations.{status_lt}

-- a setting that is made under a condition is of its own pair exactly where that holds
sets_own : {X : Type 0} (b : Bool) (q : Setting X) → T (any_of (of_pair q.rcid q.at) (cond b (q ∷ []) [])) ↔ T b
unfolding any_of of_pair
sets_own true q =
    let r = eqb q.rcid q.rcid in
    let a = eqb q.at q.at in
    (λ t. tt, λ t. or_l (r && a) false (and_in r a (eqb_in q.rcid q.rcid refl) (eqb_in q.at q.at refl)))
sets_own false q = (λ t. t, λ t. t)

module _ (resource : Resource) (nr na : ℕ) (bad : Bool) (v x : ℕ) (e : x ≡ alloc_word na v 0 (operation_status resource nr na bad v)) where
  pub read_fields : unpack alloc_ctl x ≡ 0 ∷ operation_status resource nr na bad v ∷ rcid_of v ∷ at_of na v ∷ op_of v ∷ []
  unfolding alloc_word rcid_of at_of op_of
  read_fields = ap (unpack alloc_ctl) e ∙ alloc_ctl_fields na v (operation_status resource nr na bad v) (status_lt resource nr na bad v)

  op_is : op_of x ≡ op_of v
  unfolding op_of
  op_is = ap (λ (l : List ℕ). get_or l 4 0) read_fields

  at_is : at_of na x ≡ at_of na v
  unfolding at_of
  at_is = ap (λ (l : List ℕ). held_at na (get_or l 3 0)) read_fields ∙ held_held na _

  rcid_is : rcid_of x ≡ rcid_of v
  unfolding rcid_of
  rcid_is = ap (λ (l : List ℕ). get_or l 2 0) read_fields

  status_is : status_of x ≡ operation_status resource nr na bad v
  unfolding status_of
  status_is = ap (λ (l : List ℕ). get_or l 1 0) read_fields

  -- the row of OP is the one of the value written
  op_same : performs resource ConfigLimit x ≡ performs resource ConfigLimit v
  unfolding performs
  op_same = rw op_is refl

  -- CONFIG_LIMIT made the setting exactly where it is read with STATUS 1
  pub read_sets : {X : Type 0} (value : X)
      → T (any_of (of_pair (rcid_of x) (at_of na x)) (cond (succeeds resource nr na bad ConfigLimit v) (record { rcid = rcid_of v; at = at_of na v; value = value } ∷ []) []))
      ↔ (T (performs resource ConfigLimit x) × (status_of x ≡ 1))
  unfolding succeeds
  read_sets value =
      let op = performs resource ConfigLimit v in
      let st = eqb (operation_status resource nr na bad v) 1 in
      let own = sets_own (succeeds resource nr na bad ConfigLimit v) (record { rcid = rcid_of v; at = at_of na v; value = value }) in
      rw (rcid_is, at_is, op_same) (
        λ t. let d = own.0 t in (and_l op st d, status_is ∙ eqb→eq (operation_status resource nr na bad v) 1 (and_r op st d)),
        λ h. own.1 (and_in op st h.0 (eqb_in (operation_status resource nr na bad v) 1 (sym status_is ∙ h.1))),
      )
