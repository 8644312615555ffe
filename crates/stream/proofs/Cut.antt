-- The first 81 bytes of a line say what it is answered with, and so a stream that holds no more is the stream of the whole text.
use mathlib.Core.Bool.{Bool, true, false}
use mathlib.Core.Path.{◌≡◌, refl, sym, ap, ◌∙◌}
use mathlib.Core.List.{List, [], ◌∷◌, ◌++◌, append-nil, append_assoc}
use Prim.Native.Nat.{ℕ, zero, suc, ◌<◌}
use native.Mathlib.Omega.{arith}
use borrow.Author.Tests.{lt-ltb, leb-true, leb-false}
use lib.Dec.{eqb, leb}
use lib.ListN.{length, take}
use lib.Seq.{take_all, take-nil, length-take-le}
use Rattle.std.specs.Prelude.{Option}
use Rattle.parse.specs.Parse.{parse_of}
use Rattle.parse.specs.declared.Command.{Command}
use Rattle.print.specs.Print.{line_of}
use Rattle.session.specs.Session.{Controller, none, turn_of}
use Rattle.stream.specs.Output.{ended_from, rest_from, ended_lines, rest, after_line, printed_for, after_lines, printed}
use Rattle.stream.specs.Stream.{stream, stream_of, byte, feed_of}

by_size : (l : List ℕ) (x : Bool) → leb (length l) 81 ≡ x → parse_of (take 81 l) ≡ parse_of l
unfolding parse_of
by_size l true e = ap parse_of (take_all 81 l (leb-true (length l) 81 e))
by_size l false e =
    let h : 81 < length l = leb-false (length l) 81 e in
    let k : length (take 81 l) ≡ 81 = length-take-le 81 l (omega arith) in
    rw (lt-ltb 80 (length l) (omega arith), lt-ltb 80 (length (take 81 l)) (omega arith))

cut : (l : List ℕ) → parse_of (take 81 l) ≡ parse_of l
cut l = by_size l (leb (length l) 81) refl

pub after_cut : (c : Controller) (l : List ℕ) → after_line c (take 81 l) ≡ after_line c l
unfolding after_line
after_cut c l = ap (λ (o : Option Command). (turn_of c o).controller) (cut l)

pub printed_cut : (c : Controller) (l : List ℕ) → printed_for c (take 81 l) ≡ printed_for c l
unfolding printed_for
printed_cut c l = ap (λ (o : Option Command). line_of (turn_of c o).reply) (cut l)

pub take_twice : (n : ℕ) (x y : List ℕ) → take n (take n x ++ y) ≡ take n (x ++ y)
take_twice n [] y = ap (λ (l : List ℕ). take n (l ++ y)) (take-nil n)
take_twice zero (b ∷ x) y = refl
take_twice (suc n) (b ∷ x) y = ap (λ (l : List ℕ). b ∷ l) (take_twice n x y)

-- after the text t, where the bytes h of a line came before it
abbrev After : List ℕ → Type 0
After t = (c : Controller) (h w : List ℕ)
    → feed_of (stream c (take 81 h) w) t ≡ stream (after_lines c (ended_from h t)) (take 81 (rest_from h t)) (w ++ printed c (ended_from h t))

by_byte : (x : Bool) (b : ℕ) (t : List ℕ) (c : Controller) (h w : List ℕ) → eqb b 10 ≡ x → After t
    → feed_of (byte (stream c (take 81 h) w) b) t ≡ stream (after_lines c (ended_from h (b ∷ t))) (take 81 (rest_from h (b ∷ t))) (w ++ printed c (ended_from h (b ∷ t)))
unfolding byte ended_from rest_from printed after_lines
by_byte true b t c h w e f =
    rw (e, printed_cut c h, after_cut c h)
    (f (after_line c h) [] (w ++ printed_for c h)
    ∙ ap (stream (after_lines (after_line c h) (ended_from [] t)) (take 81 (rest_from [] t))) (append_assoc w (printed_for c h) (printed (after_line c h) (ended_from [] t))))
by_byte false b t c h w e f = rw (e, take_twice 81 h (b ∷ [])) (f c (h ++ (b ∷ [])) w)

after_text : (t : List ℕ) → After t
unfolding feed_of ended_from rest_from printed after_lines
after_text [] c h w = ap (λ (l : List ℕ). stream c (take 81 h) l) (sym (append-nil w))
after_text (b ∷ t) c h w = by_byte (eqb b 10) b t c h w refl (after_text t)

pub feed_text : (text : List ℕ) → feed_of (stream none [] []) text ≡ stream_of text
unfolding stream_of ended_lines rest
feed_text text = after_text text none [] []
