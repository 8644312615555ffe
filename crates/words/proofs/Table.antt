-- Laws of tables of little-endian words, over their width.
use mathlib.Core.Path.{◌≡◌, refl, sym, ap, ◌∙◌}
use mathlib.Core.List.{List, [], ◌∷◌, ◌++◌, append_assoc}
use Prim.Native.Nat.{ℕ, zero, suc, ◌*◌, ◌^◌, ◌≤◌, ◌<◌}
use native.Mathlib.Nat.{zero-mul, suc-mul, add_comm}
use native.Mathlib.Omega.{arith}
use lib.ListN.{length, take, drop, get_or, set, replicate, replicate-append-replicate, length-append, length-drop, take-append-drop, drop_of_length-le}
use lib.Seq.{length-take-le, drop-drop, take_at, drop_at, set_split, drop-cons}
use Rattle.words.specs.Words.{word_of, bytes_of, words_of, bytes_of_all, stored, Below}
use Rattle.words.proofs.OneWord.{length_bytes, stored_at, stored_after, bytes_word, word_bytes, word_below}

-- ---- lengths

pub length_words : (k n : ℕ) (bs : List ℕ) → length (words_of k n bs) ≡ n
unfolding words_of
length_words k zero bs = refl
length_words k (suc n) bs = ap suc (length_words k n (drop k bs))

pub length_all : (k : ℕ) (ws : List ℕ) → length (bytes_of_all k ws) ≡ length ws * k
unfolding bytes_of_all
length_all k [] = sym (zero-mul k)
length_all k (w ∷ ws) = simp (length-append, length_bytes, length_all k ws, suc-mul) (omega arith)

-- ---- one word of a table

-- the word at i
pub word_at : (k n i : ℕ) (bs : List ℕ) → i < n → get_or (words_of k n bs) i 0 ≡ word_of (take k (drop (i * k) bs))
unfolding words_of
word_at k zero i bs h = absurd (omega arith)
word_at k (suc n) zero bs h = rw zero-mul
word_at k (suc n) (suc i) bs h = word_at k n i (drop k bs) (omega arith) ∙ rw (drop-drop, suc-mul, add_comm k)

-- the bytes of words and, after them, of others
pub all_append : (k : ℕ) (xs ys : List ℕ) → bytes_of_all k (xs ++ ys) ≡ bytes_of_all k xs ++ bytes_of_all k ys
unfolding bytes_of_all
all_append k [] ys = refl
all_append k (x ∷ xs) ys = rw (all_append k xs ys, append_assoc)

-- the bytes before, of and after the word at i
all_split : (k i : ℕ) (ws : List ℕ) → i < length ws → bytes_of_all k ws ≡ bytes_of_all k (take i ws) ++ (bytes_of k (get_or ws i 0) ++ bytes_of_all k (drop (suc i) ws))
unfolding bytes_of_all
all_split k i ws h = ap (bytes_of_all k) (sym (take-append-drop i ws)) ∙ rw (all_append, drop-cons ws i 0)

length_before : (k i : ℕ) (ws : List ℕ) → i < length ws → length (bytes_of_all k (take i ws)) ≡ i * k
length_before k i ws h = rw (length_all, length-take-le i ws (omega arith))

-- the bytes of the word at i
pub bytes_at : (k i : ℕ) (ws : List ℕ) → i < length ws → take k (drop (i * k) (bytes_of_all k ws)) ≡ bytes_of k (get_or ws i 0)
bytes_at k i ws h =
    rw (all_split k i ws h, drop_at _ _ (i * k) (length_before k i ws h), take_at _ _ k (length_bytes k (get_or ws i 0)))

-- the bytes of a table with one word changed are its bytes with that word stored
pub set_bytes : (k i v : ℕ) (ws : List ℕ) → i < length ws → bytes_of_all k (set ws i v) ≡ stored k (bytes_of_all k ws) (i * k) v
unfolding bytes_of_all
set_bytes k i v ws h =
    rw (set_split ws i v h, all_append, all_split k i ws h, stored_at k (i * k) v _ _ (length_before k i ws h), drop_at _ _ k (length_bytes k (get_or ws i 0)), append_assoc)

-- the words of bytes with a word stored at i
pub words_stored : (k n i v : ℕ) (bs : List ℕ) → i < n → n * k ≤ length bs → v < 256 ^ k → words_of k n (stored k bs (i * k) v) ≡ set (words_of k n bs) i v
unfolding words_of
words_stored k zero i v bs l h f = absurd (omega arith)
words_stored k (suc n) zero v bs l h f =
    let e : stored k bs (0 * k) v ≡ bytes_of k v ++ drop k bs = rw zero-mul (stored_at k 0 v [] bs refl) in
    let b = length_bytes k v in
    rw (e, take_at (bytes_of k v) (drop k bs) k b, drop_at (bytes_of k v) (drop k bs) k b, word_bytes k v f)
words_stored k (suc n) (suc i) v bs l h f =
    let first : length (take k bs) ≡ k = length-take-le k bs (omega (arith, suc-mul n k)) in
    let rest : n * k ≤ length (drop k bs) = rw length-drop (omega (arith, suc-mul n k)) in
    let e : stored k bs (suc i * k) v ≡ take k bs ++ stored k (drop k bs) (i * k) v =
    ap (λ (xs : List ℕ). stored k xs (suc i * k) v) (sym (take-append-drop k bs)) ∙ rw (suc-mul, add_comm (i * k)) (stored_after k k (i * k) v (take k bs) (drop k bs) first) in
    rw (e, take_at (take k bs) (stored k (drop k bs) (i * k) v) k first, drop_at (take k bs) (stored k (drop k bs) (i * k) v) k first, words_stored k n i v (drop k bs) (omega arith) rest f)

-- ---- words that are 0

zero_word : (k : ℕ) → bytes_of k 0 ≡ replicate k 0
unfolding bytes_of
zero_word zero = refl
zero_word (suc k) = ap (λ (bs : List ℕ). 0 ∷ bs) (zero_word k)

-- their bytes are 0
pub zero_bytes : (k n : ℕ) → bytes_of_all k (replicate n 0) ≡ replicate (n * k) 0
unfolding bytes_of_all
zero_bytes k zero = rw zero-mul
zero_bytes k (suc n) = rw (zero_word k, zero_bytes k n, replicate-append-replicate, suc-mul, add_comm k)

-- ---- bounds

-- from what owning a slice tells of each entry
pub below_all : (m : ℕ) (xs : List ℕ) → ((i : ℕ) → get_or xs i 0 < m) → Below m xs
below_all m [] h = tt
below_all m (x ∷ xs) h = (h 0, below_all m xs (λ i. h (suc i)))

below_take : (m k : ℕ) (xs : List ℕ) → Below m xs → Below m (take k xs)
below_take m zero xs b = tt
below_take m (suc k) [] b = tt
below_take m (suc k) (x ∷ xs) b = (b.0, below_take m k xs b.1)

below_drop : (m k : ℕ) (xs : List ℕ) → Below m xs → Below m (drop k xs)
below_drop m zero xs b = b
below_drop m (suc k) [] b = tt
below_drop m (suc k) (x ∷ xs) b = below_drop m k xs b.1

-- each decoded word is below 256 ^ k
pub words_below : (k n : ℕ) (bs : List ℕ) → Below 256 bs → Below (256 ^ k) (words_of k n bs)
unfolding words_of
words_below k zero bs b = tt
words_below k (suc n) bs b = (word_below k bs b, words_below k n (drop k bs) (below_drop 256 k bs b))

-- ---- round trips

-- the bytes of the words of bytes
pub bytes_words : (k n : ℕ) (bs : List ℕ) → length bs ≡ n * k → Below 256 bs → bytes_of_all k (words_of k n bs) ≡ bs
unfolding words_of bytes_of_all
bytes_words k zero bs e b =
    let none : length bs ≤ 0 = omega (arith, zero-mul k) in
    sym (drop_of_length-le bs none)
bytes_words k (suc n) bs e b =
    let l : length (take k bs) ≡ k = length-take-le k bs (omega (arith, suc-mul n k)) in
    let first : bytes_of k (word_of (take k bs)) ≡ take k bs = ap (λ (m : ℕ). bytes_of m (word_of (take k bs))) (sym l) ∙ bytes_word (take k bs) (below_take 256 k bs b) in
    let rest : length (drop k bs) ≡ n * k = rw length-drop (omega (arith, suc-mul n k)) in
    rw (first, bytes_words k n (drop k bs) rest (below_drop 256 k bs b), take-append-drop)
