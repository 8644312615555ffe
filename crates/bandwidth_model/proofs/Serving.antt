-- The window that a window end opens: as waiters are served in turn it stays fair, and the pool's shares stay within the pool.
use mathlib.Core.Path.{◌≡◌, refl, ap, ap₂, ◌∙◌}
use mathlib.Core.Bool.{cond}
use mathlib.Core.List.{List}
use Prim.Native.Nat.{ℕ, zero, suc, ◌+◌, ◌-◌, ◌*◌, ◌/◌, ◌≤◌, ◌<◌}
use native.Mathlib.Nat.{zero-add, suc-add, le_trans, le_refl, zero-div, mul-zero, div-mul-le_self, mul-le-mul_left, le_of_mul-le-mul_right}
use native.Mathlib.Omega.{arith}
use lib.Dec.{T, eqb, eqb→eq}
use lib.ListN.{get_or, set}
use lib.Seq.{get_or-set_other}
use Rattle.tables.proofs.Laws.{get_or_zeros}
use Rattle.tables.proofs.Tests.{cases, neqb, cond_same}
use Rattle.access.specs.Pairs.{pair, word_at}
use Rattle.bandwidth_model.specs.Rules.{Setup, pairs, weight_of, shared_at_of, use_shared_of, is_holder, is_sharer, Holder, nobody, held, holder_of, pool_of}
use Rattle.bandwidth_model.specs.Calls.{grant_sum}
use Rattle.bandwidth_model.specs.Waiters.{waiter_at, need_at, held_word, own_part, share_weight, pool_part, served_of, waiter_holder, weight_at, weights_below, served_at}
use Rattle.bandwidth_model.specs.Model.{Usage, opened, spend, usage_served}
use Rattle.bandwidth_model.specs.Ledger.{Window, open_window, note_grant, window_served}
use Rattle.bandwidth_model.specs.View.{Ranges}
use Rattle.bandwidth_model.proofs.Words.{shared_0, sharer_shared, reserved_0}
use Rattle.bandwidth_model.proofs.Settings.{View, unset, holds, follows, TableFacts}
use Rattle.bandwidth_model.proofs.Holders.{IsHeld, found_holds, holder_inside}
use Rattle.bandwidth_model.proofs.Waiters.{over_none, over_one, over_both}
use Rattle.bandwidth_model.proofs.WaiterWords.{WaiterFacts, ok_at}
use Rattle.bandwidth_model.proofs.Window.{Spent, window_of, spent_none, spent_more}

-- ---- a holder stands in the row of its RCID

abbrev InRow : ℕ → ℕ → Holder → Type 0
InRow na rcid nobody = Unit
InRow na rcid (held i) = (rcid * na ≤ i) × (i < suc rcid * na)

in_row : (na rcid at : ℕ) → at < na → InRow na rcid (held (pair na rcid at))
unfolding pair
in_row na rcid at h = (omega arith, omega arith)

shared_known : {su : Setup} {table : List ℕ} {rcid at w : ℕ} → T (is_sharer w) → View su table rcid at w → shared_at_of w < su.na
shared_known {w = w} t (unset z) = absurd (sharer_shared w t (ap use_shared_of z ∙ shared_0))
shared_known {w = w} t (holds s u p) = absurd (sharer_shared w t u)
shared_known t (follows s u o k h) = k

found_row : (su : Setup) (active : List ℕ) (rcid at : ℕ) → TableFacts su active → rcid < su.nr → at < su.na
    → InRow su.na rcid (holder_of su active rcid at)
unfolding holder_of
found_row su active rcid at t hr ha =
    let w = word_at su.na active rcid at in
    let own = held (pair su.na rcid at) in
    let other = held (pair su.na rcid (shared_at_of w)) in
    cases (λ b. InRow su.na rcid (cond b own (cond (is_sharer w) other nobody))) (is_holder w) (λ h. in_row su.na rcid at ha)
    (λ n. cases (λ b. InRow su.na rcid (cond b other nobody)) (is_sharer w)
    (λ s. in_row su.na rcid (shared_at_of w) (shared_known s (t.words rcid at hr ha))) (λ s. tt))

-- ---- shares of the pool

-- a share times the sum of the weights is at most the pool times its weight
share_times : (p x all : ℕ) → p ≤ x / all → p * all ≤ x
share_times p x all h = le_trans (mul_right p (x / all) all h) (div-mul-le_self x all)
  where
    mul_right : (a b c : ℕ) → a ≤ b → a * c ≤ b * c
    mul_right a b c h = omega (arith, mul-le-mul_left c h)

-- so all shares together stay within the pool; where no weight counts there is no share
within_pool : (given p pool before weight all : ℕ) → given * all ≤ pool * before → p ≤ pool * weight / all → before + weight ≤ all → given ≤ pool → given + p ≤ pool
within_pool given p pool before weight zero g h s l =
    let z : weight ≡ 0 = omega arith in
    let e : pool * weight ≡ 0 = ap (λ (k : ℕ). pool * k) z ∙ mul-zero pool in
    let q : pool * weight / 0 ≡ 0 = ap (λ (k : ℕ). k / 0) e ∙ zero-div 0 in
    omega arith
within_pool given p pool before weight (suc k) g h s l =
    let all = suc k in
    let a : p * all ≤ pool * weight = share_times p (pool * weight) all h in
    let b : pool * (before + weight) ≤ pool * all = mul-le-mul_left pool s in
    let d : pool * (before + weight) ≡ pool * before + pool * weight = omega arith in
    let e : (given + p) * all ≡ given * all + p * all = omega arith in
    let f : (given + p) * all ≤ pool * all = omega arith in
    le_of_mul-le-mul_right f (omega arith)

-- ---- one waiter, by the word of its holder

module _ (su : Setup) (pool all word need : ℕ) where
  pool_share : pool_part su pool all word need ≤ pool * share_weight su word need / all
  unfolding pool_part
  pool_share = omega arith

  pool_rest : pool_part su pool all word need ≤ need - own_part su word need
  unfolding pool_part
  pool_rest = omega arith

  -- without weight the pool gives nothing
  pool_none : weight_of word ≡ 0 → pool_part su pool all word need ≡ 0
  unfolding share_weight
  pool_none e =
      let z : share_weight su word need ≡ 0 = rw e (simp cond_same refl) in
      let x : pool * share_weight su word need ≡ 0 = ap (λ (k : ℕ). pool * k) z ∙ mul-zero pool in
      let q : pool * share_weight su word need / all ≡ 0 = ap (λ (k : ℕ). k / all) x ∙ zero-div all in
      omega (arith, pool_share)

weight_0 : weight_of 0 ≡ 0
unfolding weight_of
weight_0 = refl

-- a waiter that is led to nobody is served nothing
own_0 : (su : Setup) (need : ℕ) → own_part su 0 need ≡ 0
unfolding own_part
own_0 su need = rw reserved_0 (omega arith)

-- ---- all waiters, RCID by RCID

module _ (su : Setup) (table waiters : List ℕ) where
  abbrev all : ℕ
  all = weights_below su table waiters su.nr

  weights_none : (n : ℕ) → get_or waiters n 0 ≡ 0 → weights_below su table waiters (suc n) ≡ weights_below su table waiters n
  unfolding weights_below
  weights_none n z = over_none _ waiters 0 n z

  weights_one : (n : ℕ) → (get_or waiters n 0 ≡ 0 → ⊥) → weights_below su table waiters (suc n) ≡ weights_below su table waiters n + weight_at su table waiters n
  unfolding weights_below
  weights_one n d = over_one _ waiters 0 n d

  weights_more : (n : ℕ) → weights_below su table waiters n ≤ weights_below su table waiters (suc n)
  weights_more n =
      cases (λ b. weights_below su table waiters n ≤ weights_below su table waiters (suc n)) (eqb (get_or waiters n 0) 0)
      (λ t. omega (arith, weights_none n (eqb→eq (get_or waiters n 0) 0 t))) (λ t. omega (arith, weights_one n (neqb (get_or waiters n 0) 0 t)))

  weights_in : (n k : ℕ) → weights_below su table waiters n ≤ weights_below su table waiters (k + n)
  weights_in n zero = rw (zero-add n) (le_refl _)
  weights_in n (suc k) = rw (suc-add k n) (le_trans (weights_in n k) (weights_more (k + n)))

  weights_all : (n : ℕ) → n ≤ su.nr → weights_below su table waiters n ≤ all
  weights_all n h =
      let e : su.nr - n + n ≡ su.nr = omega arith in
      rw e at (weights_in n (su.nr - n))

  -- usage u and window w once the waiters below n were served: rows from that of n on are unused, and the pool gave by the weights below n
  pub record Served (n : ℕ) (u : Usage) (w : Window) : Type 0 where
    pub asked : List ℕ
    pub pooled : List ℕ
    pub sum : ℕ
    pub table_is : u.active ≡ table
    pub same : w ≡ window_of su table u.used u.pool asked pooled sum
    pub spent : Spent su table u.used u.pool asked pooled sum
    pub unused : (j : ℕ) → n * su.na ≤ j → get_or u.used j 0 ≡ 0
    pub shares : u.pool * all ≤ pool_of su table * weights_below su table waiters n

  module _ (t : TableFacts su table) (n : ℕ) (hn : n < su.nr) (d : get_or waiters n 0 ≡ 0 → ⊥) (u : Usage) (w : Window) (o : Served n u w) (need : ℕ) where
    enough : weights_below su table waiters n + weight_at su table waiters n ≤ all
    enough = omega (arith, weights_one n d, weights_all (suc n) hn)

    serve_one : (h : Holder) → IsHeld table h → InRow su.na n h → share_weight su (held_word table h) need ≡ weight_at su table waiters n
        → Served (suc n) (spend u h (served_of su (pool_of su table) all (held_word table h) need)) (note_grant w h need (served_of su (pool_of su table) all (held_word table h) need))
    unfolding spend note_grant served_of grant_sum held_word own_part
    serve_one nobody k r e =
        let own = own_part su 0 need in
        let p = pool_part su (pool_of su table) all 0 need in
        let z : own ≡ 0 = own_0 su need in
        let q : p ≡ 0 = pool_none su (pool_of su table) all 0 need weight_0 in
        let pool_is : u.pool + p ≡ u.pool = omega arith in
        let sum_is : o.sum + (own + p) ≡ o.sum = omega arith in
        record {
          asked = o.asked;
          pooled = o.pooled;
          sum = o.sum;
          table_is = o.table_is;
          same = ap (λ (x : Window). note_grant x nobody need (served_of su (pool_of su table) all 0 need)) o.same
              ∙ ap₂ (λ (x y : ℕ). window_of su table u.used x o.asked o.pooled y) pool_is sum_is;
          spent = o.spent;
          unused = λ j l. o.unused j (omega arith);
          shares = le_trans o.shares (mul-le-mul_left (pool_of su table) (weights_more n));
        }
    serve_one (held i) k r e =
        let word = get_or table i 0 in
        let own = own_part su word need in
        let p = pool_part su (pool_of su table) all word need in
        let free : get_or u.used i 0 ≡ 0 = o.unused i r.0 in
        let share : p ≤ pool_of su table * weight_at su table waiters n / all = rw e at (pool_share su (pool_of su table) all word need) in
        let times : p * all ≤ pool_of su table * weight_at su table waiters n = share_times p (pool_of su table * weight_at su table waiters n) all share in
        record {
          asked = set o.asked i (get_or o.asked i 0 + need);
          pooled = set o.pooled i (get_or o.pooled i 0 + p);
          sum = o.sum + (own + p);
          table_is = o.table_is;
          same = ap (λ (x : Window). note_grant x (held i) need (served_of su (pool_of su table) all word need)) o.same;
          spent = spent_more su table u.used u.pool o.asked o.pooled o.sum o.spent i need own p (rw t.long at (holder_inside table i k))
              (omega (arith, free)) (pool_rest su (pool_of su table) all word need) (pool_none su (pool_of su table) all word need)
              (within_pool u.pool p (pool_of su table) (weights_below su table waiters n) (weight_at su table waiters n) all o.shares share enough o.spent.pool_in);
          unused = λ j l. get_or-set_other u.used i j (get_or u.used i 0 + own) 0 (λ q. omega (arith, r.1)) ∙ o.unused j (omega arith);
          shares = rw (weights_one n d) (omega (arith, o.shares, times));
        }

  served_none : Served 0 (opened su table) (open_window su table)
  unfolding opened open_window
  served_none = record {
    asked = _;
    pooled = _;
    sum = 0;
    table_is = refl;
    same = refl;
    spent = spent_none su table;
    unused = λ j l. get_or_zeros (pairs su) j;
    shares = omega arith;
  }

  module _ (t : TableFacts su table) (r : Ranges su) (f : WaiterFacts su waiters) where
    pub served_below : (n : ℕ) → n ≤ su.nr → Served n (usage_served su table waiters n) (window_served su table waiters n)
    unfolding usage_served window_served served_at waiter_holder weight_at
    served_below =
        over_both _ _ waiters (opened su table) (open_window su table) (λ n u w. n ≤ su.nr → Served n u w) (λ h. served_none)
        (λ n u w z o h. let k = o (omega arith) in record {
          asked = k.asked;
          pooled = k.pooled;
          sum = k.sum;
          table_is = k.table_is;
          same = k.same;
          spent = k.spent;
          unused = λ j l. k.unused j (omega arith);
          shares = rw (weights_none n z) k.shares;
        })
        (λ n u w d o h. let a = ok_at su r (get_or waiters n 0) (f.words n) in
        serve_one t n h d u w (o (omega arith)) (need_at waiters n) (waiter_holder su table waiters n) (found_holds su table n (waiter_at (get_or waiters n 0)) t h a)
        (found_row su table n (waiter_at (get_or waiters n 0)) t h a) refl)
