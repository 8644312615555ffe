-- The output of a whole input does not go by its cuts.
use mathlib.Core.Bool.{Bool, true, false}
use mathlib.Core.Path.{◌≡◌, refl, sym, ap, ◌∙◌}
use mathlib.Core.List.{List, [], ◌∷◌, ◌++◌, append-nil, append_assoc, foldl-append}
use Prim.Native.Nat.{ℕ}
use lib.Dec.{eqb}
use lib.ListN.{take}
use Rattle.session.specs.Session.{Controller, none}
use Rattle.stream.specs.Output.{ended_lines, rest, last_line, lines_of, after_line, printed_for, after_lines, printed, output_of}
use Rattle.stream.specs.Stream.{Stream, stream, stream_of, byte, feed_of, last_printed}
use Rattle.stream.specs.Claim.{fed_all, joined, Claim}
use Rattle.stream.proofs.Cut.{printed_cut, feed_text}

-- ---- what was written before stays in front

abbrev behind : List ℕ → Stream → Stream
behind w s = stream s.controller s.held (w ++ s.written)

behind_byte : (w : List ℕ) (s : Stream) (b : ℕ) (x : Bool) → eqb b 10 ≡ x → byte (behind w s) b ≡ behind w (byte s b)
unfolding byte
behind_byte w s b true e = rw e (ap (stream (after_line s.controller s.held) []) (append_assoc w s.written (printed_for s.controller s.held)))
behind_byte w s b false e = rw e refl

behind_feed : (k : List ℕ) (w : List ℕ) (s : Stream) → feed_of (behind w s) k ≡ behind w (feed_of s k)
unfolding feed_of
behind_feed [] w s = refl
behind_feed (b ∷ k) w s = ap (λ (t : Stream). feed_of t k) (behind_byte w s b (eqb b 10) refl) ∙ behind_feed k w (byte s b)

pub parts : (s : Stream) (a b : List ℕ) → feed_of s (a ++ b) ≡ feed_of (feed_of s a) b
unfolding feed_of
parts s a b = foldl-append byte s a b

-- a chunk after a text is the text with the chunk
pub fed_after : (c : Controller) (held written text chunk : List ℕ) → stream c held written ≡ stream_of text
    → behind written (feed_of (stream c held []) chunk) ≡ stream_of (text ++ chunk)
fed_after c held written text chunk e =
    sym (behind_feed chunk written (stream c held []))
    ∙ ap (λ (w : List ℕ). feed_of (stream c held w) chunk) (append-nil written)
    ∙ ap (λ (s : Stream). feed_of s chunk) (e ∙ sym (feed_text text))
    ∙ sym (parts (stream none [] []) text chunk)
    ∙ feed_text (text ++ chunk)

-- ---- the last line

printed_both : (c : Controller) (xs ys : List (List ℕ)) → printed c (xs ++ ys) ≡ printed c xs ++ printed (after_lines c xs) ys
unfolding printed after_lines
printed_both c [] ys = refl
printed_both c (x ∷ xs) ys =
    ap (λ (l : List ℕ). printed_for c x ++ l) (printed_both (after_line c x) xs ys)
    ∙ sym (append_assoc (printed_for c x) (printed (after_line c x) xs) (printed (after_lines (after_line c x) xs) ys))

last_is : (c : Controller) (h : List ℕ) → last_printed c (take 81 h) ≡ printed c (last_line h)
unfolding printed
last_is c [] = refl
last_is c (b ∷ h) = printed_cut c (b ∷ h) ∙ sym (append-nil (printed_for c (b ∷ h)))

abbrev finished : Stream → List ℕ
finished s = s.written ++ last_printed s.controller s.held

-- the end of input after a text
pub finished_after : (c : Controller) (held written text : List ℕ) → stream c held written ≡ stream_of text → written ++ last_printed c held ≡ output_of text
unfolding stream_of output_of lines_of
finished_after c held written text e =
    ap finished e
    ∙ ap (λ (l : List ℕ). printed none (ended_lines text) ++ l) (last_is (after_lines none (ended_lines text)) (rest text))
    ∙ sym (printed_both none (ended_lines text) (last_line (rest text)))

-- ---- all chunks

fed_all_lem : (ks : List (List ℕ)) (c : Controller) (held written text : List ℕ) → stream c held written ≡ stream_of text
    → written ++ fed_all c held ks ≡ output_of (text ++ joined ks)
unfolding fed_all
fed_all_lem [] c held written text e = rw (append-nil text) (finished_after c held written text e)
fed_all_lem (k ∷ ks) c held written text e =
    let s = feed_of (stream c held []) k in
    sym (append_assoc written s.written (fed_all s.controller s.held ks))
    ∙ fed_all_lem ks s.controller s.held (written ++ s.written) (text ++ k) (fed_after c held written text k e)
    ∙ ap output_of (append_assoc text k (joined ks))

pub start_is : stream none [] [] ≡ stream_of []
unfolding feed_of
start_is = feed_text []

pub claim : Claim
claim = record {
  parts = λ c held written a b. parts (stream c held written) a b;
  so_far = feed_text;
  whole = λ chunks. fed_all_lem chunks none [] [] [] start_is;
}
