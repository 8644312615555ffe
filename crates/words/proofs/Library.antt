-- A word by the library's bytes of a number.
use Rattle.std.proofs.Common.{◌≡◌, ℕ, zero, suc, ◌+◌, ◌*◌, ◌^◌, ◌≤◌, ◌<◌, List, length, get_or, take, drop, sym, ap, ◌∙◌, arith, length-drop}
use Rattle.std.proofs.Math.Nat.{zero-add, zero-mul, suc-mul, add_comm}
use Rattle.std.proofs.Math.Numerals.{add-one}
use Rattle.std.proofs.Math.Seq.{length-take-le, take_all, drop-drop}
use Rattle.std.specs.Simd.{first_chunks}
use Rattle.std.specs.Int.{byte_worth, sum_through}
use Rattle.words.specs.Words.{word_of}
use Rattle.words.proofs.OneWord.{word_join, word_byte}

-- the number of k + 1 bytes
bytes_worth : (k : ℕ) (bs : List ℕ) → k < length bs → sum_through (λ i. byte_worth i (get_or bs i 0)) k ≡ word_of (take (suc k) bs)
bytes_worth zero bs h = sym (word_byte 0 bs h)
bytes_worth (suc k) bs h =
    let highest : word_of (take 1 (drop (0 + suc k) bs)) ≡ get_or bs (suc k) 0 = rw zero-add (word_byte (suc k) bs h) in
    let all : word_of (take (suc (suc k)) bs) ≡ word_of (take (suc k) bs) + 256 ^ suc k * word_of (take 1 (drop (0 + suc k) bs)) = rw add-one at (word_join (suc k) 1 0 bs (omega arith)) in
    rw (all, highest, bytes_worth k bs (omega arith)) (omega arith)

-- the number of the k + 1 bytes at at
pub chunk_word : (k at : ℕ) (bytes chunk : List ℕ) → at + (k + 1) ≤ length bytes → chunk ≡ take (k + 1) (drop at bytes)
    → sum_through (λ i. byte_worth i (get_or chunk i 0)) k ≡ word_of (take (k + 1) (drop at bytes))
chunk_word k at bytes chunk h e =
    let long : length chunk ≡ k + 1 = ap length e ∙ length-take-le (k + 1) (drop at bytes) (rw length-drop (omega arith)) in
    bytes_worth k chunk (omega arith) ∙ ap word_of (take_all (suc k) chunk (omega arith) ∙ e)

-- chunk i of bytes
pub chunk_at : (n k i : ℕ) (bs d : List ℕ) → i < k → get_or (first_chunks n k bs) i d ≡ take n (drop (i * n) bs)
chunk_at n zero i bs d h = absurd (omega arith)
chunk_at n (suc k) zero bs d h = rw zero-mul
chunk_at n (suc k) (suc i) bs d h = chunk_at n k i (drop n bs) d (omega arith) ∙ rw (drop-drop, suc-mul, add_comm n)
