-- What the first rows of tables hold, and what a part after them holds by itself, together.
use mathlib.Core.Path.{◌≡◌, refl, sym, ap, subst, ◌∙◌}
use mathlib.Core.List.{List}
use Prim.Native.Nat.{ℕ, ◌+◌, ◌-◌, ◌*◌, ◌%◌, ◌≤◌, ◌<◌}
use native.Mathlib.Nat.{add-mul, zero-mul, mul-le-mul_right}
use native.Mathlib.Omega.{arith}
use lib.Bits.{bit_or}
use lib.ListN.{get_or}
use Rattle.tables.specs.View.{union_below}
use Rattle.tables.specs.Parts.{part}
use Rattle.tables.proofs.Laws.{sum_add, sum_same, all_add, all_same}
use Rattle.tables.proofs.Parts.{part_at, part_length, row_inside}
use Rattle.tables.proofs.Union.{union_none, union_same, union_add}
use Rattle.bandwidth_wellformed.specs.Bits.{form_bits, form_at, blocks_at, mark, mark_at, sharing_bits, absent, absent_at, weight_bits, row_right, right_at, over_at, AtMost, SpanAt}
use Rattle.bandwidth_wellformed.specs.Tables.{Rows, Zeros, TableSummed, Summed, TableAdded, Added, SumsFit}
use Rattle.bandwidth_wellformed.specs.declared.settings.TableSums.{TableSums}
use Rattle.bandwidth_wellformed.specs.declared.settings.Sums.{Sums}
use Rattle.bandwidth_wellformed.proofs.Passes.{blocks_low, zeros_summed, none_summed, used_none}

-- ---- the first n rows, and the m rows after them

-- the union of n entries, and of m entries after them that g tells
union_more : (n m : ℕ) (f g : ℕ → ℕ) → ((i : ℕ) → i < m → g i ≡ f (n + i)) → union_below (n + m) f ≡ bit_or (union_below n f) (union_below m g)
union_more n m f g h = union_add n m f ∙ ap (bit_or (union_below n f)) (union_same m (λ i. f (n + i)) g (λ i l. sym (h i l)))

module _ (na n m : ℕ) (t : List ℕ) where
  abbrev rest : List ℕ
  rest = part (n * na) (m * na) t

  word_is : (i : ℕ) → i < m * na → get_or rest i 0 ≡ get_or t (n * na + i) 0
  word_is i h = part_at t (n * na) (m * na) i h

  right_is : (i : ℕ) → i < m → right_at na rest i ≡ right_at na t (n + i)
  unfolding right_at row_right sharing_bits mark_at weight_bits absent_at
  right_is i h =
      let same : (a : ℕ) → a < na → get_or rest (i * na + a) 0 ≡ get_or t ((n + i) * na + a) 0 =
      λ a l. word_is (i * na + a) (omega (arith, row_inside m na i h)) ∙ ap (λ (k : ℕ). get_or t k 0) (omega (arith, add-mul n i na)) in
      rw (
        union_same na _ (λ a. mark a (get_or t ((n + i) * na + a) 0)) (λ a l. ap (mark a) (same a l)),
        union_same na _ (λ a. get_or t ((n + i) * na + a) 0) same,
        union_same na _ (λ a. absent (get_or t ((n + i) * na + a) 0)) (λ a l. ap absent (same a l)),
      ) refl

  table_more : {x y z : TableSums} → TableSummed na t n x → TableSummed na rest m y → TableAdded x y z → TableSummed na t (n + m) z
  unfolding form_at blocks_at
  table_more x y z =
      let forms = union_more (n * na) (m * na) (form_at t) (form_at rest) (λ i l. ap form_bits (word_is i l)) in
      let sums = sum_add (n * na) (m * na) (blocks_at t) in
      let same = sum_same (m * na) (blocks_at rest) (λ i. blocks_at t (n * na + i)) (λ i l. ap (λ (w : ℕ). w % 65536) (word_is i l)) in
      record {
        form = z.form ∙ rw (x.form, y.form, add-mul n m na) (sym forms);
        rows = z.rows ∙ rw (x.rows, y.rows, all_add n m (right_at na t), all_same m (right_at na rest) (λ i. right_at na t (n + i)) right_is) refl;
        blocks = z.blocks ∙ rw (add-mul n m na) (omega (arith, sums, same, x.blocks, y.blocks));
      }

over_more : (q na n m : ℕ) (active used : List ℕ) → union_below ((n + m) * na) (over_at q active used)
    ≡ bit_or (union_below (n * na) (over_at q active used)) (union_below (m * na) (over_at q (part (n * na) (m * na) active) (part (n * na) (m * na) used)))
unfolding over_at blocks_at
over_more q na n m active used =
    ap (λ (k : ℕ). union_below k (over_at q active used)) (add-mul n m na)
    ∙ union_more (n * na) (m * na) (over_at q active used) (over_at q (part (n * na) (m * na) active) (part (n * na) (m * na) used))
    (λ i l. rw (word_is na n m active i l, word_is na n m used i l) refl)

-- ---- part by part

pub span_is : (na nr r next step : ℕ) → r < next → next ≤ nr → next - r ≤ step → step * na ≤ 64 → nr * na ≤ 2048 → SpanAt na nr r next (r * na) (next * na)
span_is na nr r next step l h d s f =
    let e : r + (next - r) ≡ next = omega arith in
    let p : next * na ≡ r * na + (next - r) * na = ap (λ (k : ℕ). k * na) (sym e) ∙ add-mul r (next - r) na in
    let n : next * na ≤ nr * na = mul-le-mul_right na h in
    let m : (next - r) * na ≤ step * na = mul-le-mul_right na d in
    record { later = l; inside = h; from_is = refl; to_is = refl; order = omega arith; end = n; long = omega arith; short = omega arith; few = omega arith }

module _ {na q nr r next from to : ℕ} {active configured used : List ℕ} (s : SpanAt na nr r next from to) where
  -- the tables' parts
  pub span_rows : Rows na q nr active configured used
      → Rows na q (next - r) (part from (to - from) active) (part from (to - from) configured) (part from (to - from) used)
  span_rows w =
      let i : from + (to - from) ≤ nr * na = omega arith in
      record {
        na_low = w.na_low;
        na_high = w.na_high;
        q_low = w.q_low;
        q_high = w.q_high;
        active_long = sym (part_length active from (to - from) (rw (← w.active_long) i) ∙ s.long);
        configured_long = sym (part_length configured from (to - from) (rw (← w.configured_long) i) ∙ s.long);
        used_long = sym (part_length used from (to - from) (rw (← w.used_long) i) ∙ s.long);
        few = omega (arith, s.long, s.short);
      }

  -- the sums of the rows below r and those of the part are the sums of the rows below next
  pub sums_more : {x y z : Sums} → Summed na q active configured used r x
      → Summed na q (part from (to - from) active) (part from (to - from) configured) (part from (to - from) used) (next - r) y
      → Added x y z → Summed na q active configured used next z
  sums_more {z = z} g h d =
      let e : r + (next - r) ≡ next = omega arith in
      let k = rw (s.long, s.from_is) at h in
      subst (λ (n : ℕ). Summed na q active configured used n z) e
      (record {
        active = table_more na r (next - r) active g.active k.active d.active;
        configured = table_more na r (next - r) configured g.configured k.configured d.configured;
        over = d.over ∙ rw (g.over, k.over) (sym (over_more q na r (next - r) active used));
      })

  -- they fit
  pub sums_fit : {x y : Sums} {a c u : List ℕ} → Summed na q active configured used r x → Summed na q a c u (next - r) y → SumsFit x y
  sums_fit {a = a} {c = c} g h =
      let f : r * na ≤ 2048 = omega (arith, s.from_is) in
      let k : (next - r) * na ≤ 64 = omega (arith, s.long, s.short) in
      record {
        active = omega (arith, g.active.blocks, h.active.blocks, blocks_low active (r * na), blocks_low a ((next - r) * na));
        configured = omega (arith, g.configured.blocks, h.configured.blocks, blocks_low configured (r * na), blocks_low c ((next - r) * na));
      }

-- ---- rows that are all 0

zero_sums : {na n : ℕ} {t u : List ℕ} {s : TableSums} → TableSummed na u 0 s → AtMost (λ k. get_or t k 0) (n * na) 0 → TableSummed na t n s
zero_sums {na} {n} {t} {u} e h =
    let z = zeros_summed na n t h in
    let o = none_summed na u in
    record {
      form = e.form ∙ sym o.form ∙ z.form;
      rows = e.rows ∙ sym o.rows ∙ z.rows;
      blocks = e.blocks ∙ sym o.blocks ∙ z.blocks;
    }

-- they have the sums of no rows
pub zeros_none : {na q n m : ℕ} {active configured used : List ℕ} {s : Sums} → n * na ≡ m → Zeros m active configured used → Summed na q active configured used 0 s
    → Summed na q active configured used n s
zeros_none {na} {q} {n} {active = active} {used = used} e z s =
    let w = rw (← e) at z in
    record {
      active = zero_sums s.active w.active_none;
      configured = zero_sums s.configured w.configured_none;
      over = s.over ∙ ap (λ (k : ℕ). union_below k (over_at q active used)) (zero-mul na) ∙ union_none _ ∙ sym (used_none q active used (n * na) refl w.used_none);
    }
