use Rattle.std.proofs.Common.{◌≡◌, ◌<◌, ◌/◌, ℕ, ◌+◌, ◌*◌, ◌≤◌, List, [], length, get_or, sym, ap, ◌∙◌, arith}
use Rattle.tables.specs.View.{union_below}
use Rattle.tables.proofs.Union.{union_none, union_next}
use Rattle.words.specs.Words.{table_of}
use Rattle.words.proofs.Library.{chunk_word, chunk_at}
use Rattle.words.proofs.Parts.{entries, entry_in}
use Rattle.words.proofs.entry.union64.Goals as goal

pub loop-word-init : goal.loop-word-init
loop-word-init c = sym (union_none _)

pub loop-word-preserved : goal.loop-word-preserved
loop-word-preserved c =
    let b = c.args.b.now in
    let i = c.loop-word.word-index in
    let there : i < length b / 8 = omega (arith, c.as_chunks.ensures.front_len) in
    let room : i * 8 + 8 ≤ length b = omega arith in
    let chunk = ap (λ (cs : List (List ℕ)). get_or cs i []) c.as_chunks.ensures.front ∙ chunk_at 8 (length b / 8) i b [] there in
    let w = entry_in 8 b i _ there (c.from_le_bytes-bits.ensures ∙ chunk_word 7 (i * 8) b _ room chunk) in
    rw (union_next, ← w, ← c.loop-word.invariant)

pub returns : goal.returns
returns c =
    let b = c.args.b.now in
    let e : c.loop-word.word-index ≡ length (table_of 8 b) = omega (arith, entries 8 b, c.as_chunks.ensures.front_len) in
    c.loop-word.invariant ∙ ap (λ (n : ℕ). union_below n (λ i. get_or (table_of 8 b) i 0)) e
