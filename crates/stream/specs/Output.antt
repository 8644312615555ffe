-- The listing's output for a whole input.
use Rattle.std.specs.Prelude.{cond, List, [], ◌∷◌, ◌++◌, ℕ, eqb}
use Rattle.parse.specs.Parse.{parse_of}
use Rattle.print.specs.Print.{line_of}
use Rattle.session.specs.Session.{Controller, none, turn_of}

-- ---- lines

-- the lines of a text that newlines end, where the bytes held came before it; a newline is not counted
unfoldable pub ended_from : List ℕ → List ℕ → List (List ℕ)
ended_from held [] = []
ended_from held (b ∷ bs) = cond (eqb b 10) (held ∷ ended_from [] bs) (ended_from (held ++ (b ∷ [])) bs)

-- what follows the last newline
unfoldable pub rest_from : List ℕ → List ℕ → List ℕ
rest_from held [] = held
rest_from held (b ∷ bs) = cond (eqb b 10) (rest_from [] bs) (rest_from (held ++ (b ∷ [])) bs)

-- the end of input ends a line too, but nothing after the last newline is no line
abbrev pub last_line : List ℕ → List (List ℕ)
last_line [] = []
last_line (b ∷ bs) = (b ∷ bs) ∷ []

unfoldable pub ended_lines : List ℕ → List (List ℕ)
ended_lines text = ended_from [] text

unfoldable pub rest : List ℕ → List ℕ
rest text = rest_from [] text

unfoldable pub lines_of : List ℕ → List (List ℕ)
lines_of text = ended_lines text ++ last_line (rest text)

-- ---- answers

-- the controller after a line, and what the line prints
unfoldable pub after_line : Controller → List ℕ → Controller
after_line c l = (turn_of c (parse_of l)).controller

unfoldable pub printed_for : Controller → List ℕ → List ℕ
printed_for c l = line_of (turn_of c (parse_of l)).reply

-- the same for lines, one after the other
unfoldable pub after_lines : Controller → List (List ℕ) → Controller
after_lines c [] = c
after_lines c (l ∷ ls) = after_lines (after_line c l) ls

unfoldable pub printed : Controller → List (List ℕ) → List ℕ
printed c [] = []
printed c (l ∷ ls) = printed_for c l ++ printed (after_line c l) ls

-- the output of a whole input: before its first line no controller is set up
unfoldable pub output_of : List ℕ → List ℕ
output_of text = printed none (lines_of text)
