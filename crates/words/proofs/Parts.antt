-- Parts of tables: the words of a part of the bytes, and the bytes of words of which a part is replaced, over the width.
use mathlib.Core.Path.{◌≡◌, refl, sym, ap, ◌∙◌}
use mathlib.Core.List.{List, [], ◌∷◌, ◌++◌}
use Prim.Native.Nat.{ℕ, zero, suc, ◌+◌, ◌-◌, ◌*◌, ◌/◌, ◌^◌, ◌≤◌, ◌<◌}
use native.Mathlib.Nat.{zero-mul, suc-mul, suc-add, zero-add, add_comm, le-div_iff_mul-le, le_of_mul-le-mul_right, div-eq_of_eq-mul_left}
use native.Mathlib.Omega.{arith}
use lib.ListN.{length, get_or, take, drop, take-append-drop, length-drop, get_or-eq_default}
use Rattle.std.proofs.lemmas.List.{get_or_default}
use lib.Seq.{take_all, length-take-le, drop-drop, take_at, drop_at, ext_get_or}
use Rattle.tables.specs.Parts.{part, with_part}
use Rattle.words.specs.Words.{word_of, words_of, bytes_of_all, table_of, Holds, Below}
use Rattle.words.proofs.OneWord.{word_bytes}
use Rattle.words.proofs.Table.{length_words, length_all, all_append, word_at, bytes_at, bytes_words, below_all, words_below}

-- ---- the words of a part

words_take : (k n j : ℕ) (bs : List ℕ) → take n (words_of k (n + j) bs) ≡ words_of k n bs
unfolding words_of
words_take k zero j bs = refl
words_take k (suc n) j bs = rw (suc-add, words_take k n j (drop k bs))

words_drop : (k m n : ℕ) (bs : List ℕ) → drop m (words_of k (m + n) bs) ≡ words_of k n (drop (m * k) bs)
unfolding words_of
words_drop k zero n bs = rw (zero-add, zero-mul)
words_drop k (suc m) n bs = rw (suc-add, words_drop k m n (drop k bs), drop-drop, suc-mul, add_comm k)

part_words : (k from n : ℕ) (bs : List ℕ) → 0 < k → (from + n) * k ≤ length bs → words_of k n (drop (from * k) bs) ≡ part from n (table_of k bs)
unfolding table_of
part_words k from n bs z h =
    let le : from + n ≤ length bs / k = (le-div_iff_mul-le z).1 h in
    let more : ℕ = length bs / k - (from + n) in
    let all : length bs / k ≡ from + (n + more) = omega arith in
    rw (all, words_drop k from (n + more) bs, words_take k n more (drop (from * k) bs)) refl

-- decoding the bytes from a word on gives the words from there on
pub loaded : (k from n : ℕ) (bs new : List ℕ) → 0 < k → (from + n) * k ≤ length bs → new ≡ words_of k n (take (length bs - from * k) (drop (from * k) bs))
    → new ≡ part from n (table_of k bs)
loaded k from n bs new z h e =
    let all : length (drop (from * k) bs) ≤ length bs - from * k = rw length-drop (omega arith) in
    e ∙ ap (words_of k n) (take_all (length bs - from * k) (drop (from * k) bs) all) ∙ part_words k from n bs z h

-- ---- the bytes of a table with a part replaced

module _ (k m : ℕ) (ws : List ℕ) (h : m ≤ length ws) where
  split : bytes_of_all k ws ≡ bytes_of_all k (take m ws) ++ bytes_of_all k (drop m ws)
  split = ap (bytes_of_all k) (sym (take-append-drop m ws)) ∙ all_append k (take m ws) (drop m ws)

  before : length (bytes_of_all k (take m ws)) ≡ m * k
  before = rw (length_all, length-take-le m ws h)

  bytes_take : take (m * k) (bytes_of_all k ws) ≡ bytes_of_all k (take m ws)
  bytes_take = rw (split, take_at _ _ (m * k) before)

  pub bytes_drop : drop (m * k) (bytes_of_all k ws) ≡ bytes_of_all k (drop m ws)
  bytes_drop = rw (split, drop_at _ _ (m * k) before)

part_bytes : (k from n : ℕ) (bs ws new : List ℕ) → from + n ≤ length ws → bs ≡ bytes_of_all k ws
    → with_part (from * k) (n * k) bs (bytes_of_all k new) ≡ bytes_of_all k (with_part from n ws new)
part_bytes k from n bs ws new l h =
    let rest : n ≤ length (drop from ws) = rw length-drop (omega arith) in
    rw (h, bytes_take k from ws (omega arith), bytes_drop k from ws (omega arith), bytes_drop k n (drop from ws) rest, all_append, all_append) refl

-- encoding words into the bytes from a word on leaves the bytes of the words with that part replaced
pub put_part : (k from end : ℕ) (bs words sub : List ℕ) → 0 < k → (from + length words) * k ≤ length bs → end ≡ from * k + length words * k
    → sub ≡ bytes_of_all k words → (ws : List ℕ) → bs ≡ bytes_of_all k ws → with_part (from * k) (end - from * k) bs sub ≡ bytes_of_all k (with_part from (length words) ws words)
put_part k from end bs words sub z h d e ws q =
    let n : end - from * k ≡ length words * k = omega arith in
    let l : length ws * k ≡ length bs = sym (ap length q ∙ length_all k ws) in
    let m : from + length words ≤ length ws = le_of_mul-le-mul_right (rw (← l) at h) z in
    rw (e, n) (part_bytes k from (length words) bs ws words m q)

-- ---- words in an array of the part's length

-- loaded
pub loaded_as : (from : ℕ) (bytes : List ℕ) {n m : ℕ} {x : List ℕ} → x ≡ part from m (table_of 4 bytes) → m ≡ n → x ≡ part from n (table_of 4 bytes)
loaded_as from bytes e h = e ∙ ap (λ (m : ℕ). part from m (table_of 4 bytes)) h

-- stored back
pub stored_as : (from : ℕ) (bytes left : List ℕ) {n : ℕ} {new : List ℕ} → new ≡ bytes_of_all 4 (with_part from (length left) (table_of 4 bytes) left) → length left ≡ n
    → new ≡ bytes_of_all 4 (with_part from n (table_of 4 bytes) left)
stored_as from bytes left e h = e ∙ ap (λ (m : ℕ). bytes_of_all 4 (with_part from m (table_of 4 bytes) left)) h

-- ---- all words of a table whose length is a number of words

module _ (k n : ℕ) (bs : List ℕ) (z : 0 < k) (e : length bs ≡ n * k) where
  number : length bs / k ≡ n
  number = div-eq_of_eq-mul_left z e

  pub table_length : length (table_of k bs) ≡ n
  unfolding table_of
  table_length = length_words k (length bs / k) bs ∙ number

  pub table_held : ((i : ℕ) → get_or bs i 0 < 256) → Holds k bs (table_of k bs)
  unfolding table_of
  table_held b = record { words_are = refl; bytes_are = rw number (sym (bytes_words k n bs e (below_all 256 bs b))) }

-- the words of the bytes of words
entry_same : (k : ℕ) (ws : List ℕ) → 0 < k → ((i : ℕ) → get_or ws i 0 < 256 ^ k) → (i : ℕ) → i < length ws → get_or (table_of k (bytes_of_all k ws)) i 0 ≡ get_or ws i 0
unfolding table_of
entry_same k ws z h i l =
    word_at k (length (bytes_of_all k ws) / k) i (bytes_of_all k ws) (rw (number k (length ws) (bytes_of_all k ws) z (length_all k ws)) l)
    ∙ ap word_of (bytes_at k i ws l) ∙ word_bytes k (get_or ws i 0) (h i)

pub table_bytes : (k : ℕ) (ws : List ℕ) → 0 < k → ((i : ℕ) → get_or ws i 0 < 256 ^ k) → table_of k (bytes_of_all k ws) ≡ ws
table_bytes k ws z h =
    let e = table_length k (length ws) (bytes_of_all k ws) z (length_all k ws) in
    ext_get_or 0 (table_of k (bytes_of_all k ws)) ws e (λ i l. entry_same k ws z h i (rw e at l))

-- a table of bytes by its length alone
module _ (k : ℕ) (bs : List ℕ) where
  pub entries : length (table_of k bs) ≡ length bs / k
  unfolding table_of
  entries = length_words k (length bs / k) bs

  pub entry_in : (i w : ℕ) → i < length bs / k → w ≡ word_of (take k (drop (i * k) bs)) → w ≡ get_or (table_of k bs) i 0
  unfolding table_of
  entry_in i w h e = e ∙ sym (word_at k (length bs / k) i bs h)

-- the same over what a read gives where there is no word
module _ (k : ℕ) (bs : List ℕ) where
  pub entry_at : (i w d : ℕ) → i < length bs / k → w ≡ word_of (take k (drop (i * k) bs)) → w ≡ get_or (table_of k bs) i d
  entry_at i w d h e = entry_in k bs i w h e ∙ get_or_default (table_of k bs) i 0 d (omega (arith, entries k bs))

  pub entry_none : (i d : ℕ) → length bs / k ≤ i → d ≡ get_or (table_of k bs) i d
  entry_none i d h = sym (get_or-eq_default (table_of k bs) d {n = i} (omega (arith, entries k bs)))

below_every : (m : ℕ) (xs : List ℕ) → 0 < m → Below m xs → (i : ℕ) → get_or xs i 0 < m
below_every m [] z h i = z
below_every m (x ∷ xs) z h zero = h.0
below_every m (x ∷ xs) z h (suc i) = below_every m xs z h.1 i

-- each word fits its width
pub table_below : (k : ℕ) (bs : List ℕ) → 0 < 256 ^ k → ((i : ℕ) → get_or bs i 0 < 256) → (i : ℕ) → get_or (table_of k bs) i 0 < 256 ^ k
unfolding table_of
table_below k bs z b = below_every (256 ^ k) (words_of k (length bs / k) bs) z (words_below k (length bs / k) bs (below_all 256 bs b))
