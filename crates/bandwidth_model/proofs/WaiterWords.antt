-- The words of waiters: their fields, and that they stay words that a call stores.
use mathlib.Core.Path.{◌≡◌, sym, ap, ◌∙◌}
use mathlib.Core.Bool.{cond}
use mathlib.Core.List.{List, [], ◌∷◌}
use Prim.Native.Nat.{ℕ, ◌-◌, ◌^◌, ◌≤◌, ◌<◌, min}
use native.Mathlib.Omega.{arith}
use lib.Dec.{T, eqb, eqb→eq, ltb→lt, lt→ltb, le→leb}
use lib.ListN.{length, get_or, set, replicate, length-set, length-replicate}
use Rattle.fields.specs.Layout.{pack, unpack, named_bits}
use Rattle.fields.specs.Registers as reg
use Rattle.fields.proofs.Laws.{unpack_pack, pack_kept, get_lt, get_zero}
use Rattle.fields.proofs.Registers.{waiter_ordered}
use Rattle.tables.proofs.Laws.{every_set, get_or_zeros}
use Rattle.tables.proofs.Tests.{cases, and_l, and_r, and_in, or_else, or_r, eqb_in, neqb, neqb_in, cond_no}
use Rattle.access.specs.Pairs.{known_at}
use Rattle.access.proofs.Pairs.{known_lt}
use Rattle.bandwidth_model.specs.Rules.{Setup}
use Rattle.bandwidth_model.specs.Waiters.{need_of, waiter_mcid, waiter_at, waiter_kind, waiter_word, put_word, served_word, waiter_ok}
use Rattle.bandwidth_model.specs.View.{Ranges}

need_lt : (w : ℕ) → need_of w < 2 ^ 32
unfolding need_of
need_lt w = get_lt reg.waiter_need w

kind_lt : (w : ℕ) → waiter_kind w < 2
unfolding waiter_kind
kind_lt w = get_lt reg.waiter_write w

pub need_0 : need_of 0 ≡ 0
unfolding need_of
need_0 = get_zero reg.waiter_need

at_0 : waiter_at 0 ≡ 0
unfolding waiter_at
at_0 = get_zero reg.waiter_at

mcid_0 : waiter_mcid 0 ≡ 0
unfolding waiter_mcid
mcid_0 = get_zero reg.waiter_mcid

positive : (n : ℕ) → (n ≡ 0 → ⊥) → 1 ≤ n
positive n d = omega arith

-- ---- a word made of its fields

module _ (need mcid at write : ℕ) (n : need < 2 ^ 32) (m : mcid < 256) (a : at < 8) (k : write < 2) where
  abbrev word : ℕ
  word = pack reg.waiter (write ∷ at ∷ mcid ∷ need ∷ [])

  same : unpack reg.waiter word ≡ write ∷ at ∷ mcid ∷ need ∷ []
  same = unpack_pack reg.waiter 44 (write ∷ at ∷ mcid ∷ need ∷ []) waiter_ordered (k, (a, (m, (n, tt))))

  packed_need : need_of word ≡ need
  unfolding need_of
  packed_need = ap (λ (l : List ℕ). get_or l 3 0) same

  packed_mcid : waiter_mcid word ≡ mcid
  unfolding waiter_mcid
  packed_mcid = ap (λ (l : List ℕ). get_or l 2 0) same

  packed_at : waiter_at word ≡ at
  unfolding waiter_at
  packed_at = ap (λ (l : List ℕ). get_or l 1 0) same

  word_need : need_of (waiter_word need mcid at write) ≡ need
  unfolding waiter_word
  word_need = cases (λ b. need_of (cond b 0 word) ≡ need) (eqb need 0) (λ t. need_0 ∙ sym (eqb→eq need 0 t)) (λ t. packed_need)

  word_at : (need ≡ 0 → ⊥) → waiter_at (waiter_word need mcid at write) ≡ at
  unfolding waiter_word
  word_at d = ap waiter_at (cond_no (eqb need 0) 0 word (neqb_in need 0 d)) ∙ packed_at

  word_ok : (su : Setup) → mcid < su.nm → at < su.na → T (waiter_ok su (waiter_word need mcid at write))
  unfolding waiter_word waiter_ok
  word_ok su hm ha =
      cases (λ b. T (waiter_ok su (cond b 0 word))) (eqb need 0) (λ t. tt)
      (λ t. let n-ok = le→leb 1 (need_of word) (rw packed_need (positive need (neqb need 0 t))) in
      let m-ok = lt→ltb (waiter_mcid word) su.nm (rw packed_mcid hm) in
      let a-ok = lt→ltb (waiter_at word) su.na (rw packed_at ha) in
      let kept = eqb_in word (named_bits reg.waiter word) (pack_kept reg.waiter 44 (write ∷ at ∷ mcid ∷ need ∷ []) waiter_ordered (k, (a, (m, (n, tt))))) in
      or_r (eqb word 0) _ (search (and_in, n-ok, m-ok, a-ok, kept) depth 5))

-- ---- words that a call stores

module _ (su : Setup) (r : Ranges su) where
  module _ (w : ℕ) (t : T (waiter_ok su w)) where
    -- its identifiers are known
    pub ok_at : waiter_at w < su.na
    unfolding waiter_ok
    ok_at = or_else (eqb w 0) _ t (λ z. rw (eqb→eq w 0 z, at_0) (omega (arith, r.na_low))) (λ y. search (ltb→lt, and_l, and_r) depth 6)

    ok_mcid : waiter_mcid w < su.nm
    unfolding waiter_ok
    ok_mcid = or_else (eqb w 0) _ t (λ z. rw (eqb→eq w 0 z, mcid_0) (omega (arith, r.nm_low))) (λ y. search (ltb→lt, and_l, and_r) depth 6)

    module _ (g : ℕ) where
      less_lt : need_of w - g < 2 ^ 32
      less_lt = omega (arith, need_lt w)

      mcid_lt : waiter_mcid w < 256
      mcid_lt = omega (arith, ok_mcid, r.nm_high)

      at_lt : waiter_at w < 8
      at_lt = omega (arith, ok_at, r.na_high)

      pub served_need : need_of (served_word w g) ≡ need_of w - g
      unfolding served_word
      served_need = word_need (need_of w - g) (waiter_mcid w) (waiter_at w) (waiter_kind w) less_lt mcid_lt at_lt (kind_lt w)

      pub served_at_lem : (need_of w - g ≡ 0 → ⊥) → waiter_at (served_word w g) ≡ waiter_at w
      unfolding served_word
      served_at_lem = word_at (need_of w - g) (waiter_mcid w) (waiter_at w) (waiter_kind w) less_lt mcid_lt at_lt (kind_lt w)

      pub served_ok : T (waiter_ok su (served_word w g))
      unfolding served_word
      served_ok = word_ok (need_of w - g) (waiter_mcid w) (waiter_at w) (waiter_kind w) less_lt mcid_lt at_lt (kind_lt w) su ok_mcid ok_at

  module _ (mcid at kind bytes : ℕ) (m : mcid < su.nm) where
    flag_lt : cond (eqb kind 0) 0 1 < 2
    flag_lt = cases (λ b. cond b 0 1 < 2) (eqb kind 0) (λ t. omega arith) (λ t. omega arith)

    known : known_at su.na at < su.na
    known = known_lt su.na at r.na_low

    put_lt : min bytes (2 ^ 32 - 1) < 2 ^ 32
    put_lt = omega arith

    pub put_need : need_of (put_word su mcid at kind bytes) ≡ min bytes (2 ^ 32 - 1)
    unfolding put_word
    put_need =
        word_need (min bytes (2 ^ 32 - 1)) mcid (known_at su.na at) (cond (eqb kind 0) 0 1) put_lt (omega (arith, r.nm_high)) (omega (arith, known, r.na_high)) flag_lt

    pub put_at : (bytes ≡ 0 → ⊥) → waiter_at (put_word su mcid at kind bytes) ≡ known_at su.na at
    unfolding put_word
    put_at d =
        word_at (min bytes (2 ^ 32 - 1)) mcid (known_at su.na at) (cond (eqb kind 0) 0 1) put_lt (omega (arith, r.nm_high)) (omega (arith, known, r.na_high)) flag_lt
        (λ z. d (omega arith))

    pub put_ok : T (waiter_ok su (put_word su mcid at kind bytes))
    unfolding put_word
    put_ok =
        word_ok (min bytes (2 ^ 32 - 1)) mcid (known_at su.na at) (cond (eqb kind 0) 0 1) put_lt (omega (arith, r.nm_high)) (omega (arith, known, r.na_high)) flag_lt
        su m known

-- ---- a table of them, one for each RCID

pub record WaiterFacts (su : Setup) (waiters : List ℕ) : Type 0 where
  pub long : length waiters ≡ su.nr
  pub words : (rcid : ℕ) → T (waiter_ok su (get_or waiters rcid 0))

ok_0 : (su : Setup) → T (waiter_ok su 0)
unfolding waiter_ok
ok_0 su = tt

-- none waits
pub waiters_none : (su : Setup) → WaiterFacts su (replicate su.nr 0)
waiters_none su = record { long = length-replicate su.nr 0; words = λ rcid. rw (get_or_zeros su.nr rcid) (ok_0 su) }

pub waiters_set : (su : Setup) (waiters : List ℕ) (rcid word : ℕ) → WaiterFacts su waiters → T (waiter_ok su word) → WaiterFacts su (set waiters rcid word)
waiters_set su waiters rcid word f t = record {
  long = length-set waiters rcid word ∙ f.long;
  words = every_set (λ w. T (waiter_ok su w)) waiters rcid word f.words t;
}
