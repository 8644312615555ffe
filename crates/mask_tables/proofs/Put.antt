-- A word stored in a mask of c bits: the highest loses its bits from c on, the others keep all.
use mathlib.Core.Path.{◌≡◌, sym, ap, ◌∙◌}
use mathlib.Core.List.{List}
use Prim.Native.Nat.{ℕ, ◌+◌, ◌-◌, ◌*◌, ◌%◌, ◌^◌, ◌<◌}
use native.Mathlib.Nat.{mod-eq_of_lt}
use native.Mathlib.Omega.{arith}
use lib.Bits.{bit_and, and_mask}
use lib.ListN.{length, get_or, set}
use Rattle.numbers.specs.Numbers.{words_for, number_in, put_word}
use Rattle.numbers.proofs.Bits.{width_at, put_cut}
use Rattle.numbers.proofs.Lists.{number_set, words_hold, top_bits}

module _ (c i w : ℕ) (ws : List ℕ) (h : (j : ℕ) → get_or ws j 0 < 2 ^ 64) (l : i < length ws) (b : 64 * i < c) (f : w < 2 ^ 64) where
  -- the bits that word i keeps
  put_kept : (v : ℕ) → v ≡ w % 2 ^ width_at c i → number_in ws < 2 ^ c → number_in (set ws i v) ≡ put_word (number_in ws) i w % 2 ^ c
  put_kept v e x = number_set ws i v l h ∙ ap (put_word (number_in ws) i) e ∙ sym (put_cut c (number_in ws) i w x b f)

  pub put_highest : (n top : ℕ) (new : List ℕ) → n ≡ words_for c → top ≡ 2 ^ top_bits c - 1 → i + 1 ≡ n → new ≡ set ws i (bit_and w top)
      → number_in ws < 2 ^ c → number_in new ≡ put_word (number_in ws) i w % 2 ^ c
  put_highest n top new en et ei e x =
      let k = words_hold c (omega arith) in
      let width : top_bits c ≡ width_at c i = omega (arith, k.1.1) in
      ap number_in e ∙ put_kept (bit_and w top) (ap (bit_and w) et ∙ and_mask w (top_bits c) ∙ ap (λ (d : ℕ). w % 2 ^ d) width) x

  pub put_whole : (n : ℕ) (new : List ℕ) → n ≡ words_for c → (i + 1 ≡ n → ⊥) → new ≡ set ws i w → number_in ws < 2 ^ c → number_in new ≡ put_word (number_in ws) i w % 2 ^ c
  put_whole n new en ei e x =
      let k = words_hold c (omega arith) in
      let width : 64 ≡ width_at c i = omega (arith, k.1.0, k.1.1, ei) in
      ap number_in e ∙ put_kept w (sym (mod-eq_of_lt f) ∙ ap (λ (d : ℕ). w % 2 ^ d) width) x
