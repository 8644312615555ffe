-- An input that comes in chunks, answered line by line.
use Rattle.std.specs.Prelude.{cond, ◌≡◌, ℕ, suc, ◌+◌, ◌≤◌, ◌<◌, eqb, length, take, drop, get_or}
use mathlib.Core.List.{List, [], ◌∷◌, ◌++◌, foldl}
use Rattle.print.specs.Print.{line_room, Wrote}
use Rattle.session.specs.Session.{Controller, none}
use Rattle.session.specs.View.{controller_of, KeptFrom}
use Rattle.stream.specs.declared.State.{State}
use Rattle.stream.specs.Output.{ended_lines, rest, after_line, printed_for, after_lines, printed, output_of}

-- the controller, the first 81 bytes of the line that has not ended, and what was written
pub record Stream : Type 0 where
  pub controller : Controller
  pub held : List ℕ
  pub written : List ℕ

abbrev pub stream : Controller → List ℕ → List ℕ → Stream
stream c h w = record { controller = c; held = h; written = w }

-- what a text so far leads to: the answers to its ended lines are written, and the rest is held
unfoldable pub stream_of : List ℕ → Stream
stream_of text = stream (after_lines none (ended_lines text)) (take 81 (rest text)) (printed none (ended_lines text))

-- one byte: a newline ends the line, any other byte joins it; a line over 80 bytes is bad whatever follows
unfoldable pub byte : Stream → ℕ → Stream
byte s b =
    cond (eqb b 10) (stream (after_line s.controller s.held) [] (s.written ++ printed_for s.controller s.held))
    (stream s.controller (take 81 (s.held ++ (b ∷ []))) s.written)

unfoldable pub feed_of : Stream → List ℕ → Stream
feed_of s chunk = foldl byte s chunk

-- at the end of input: the line that no newline ended, if there is one
abbrev pub last_printed : Controller → List ℕ → List ℕ
last_printed c [] = []
last_printed c (b ∷ l) = printed_for c (b ∷ l)

-- ---- the promises

-- how many bytes stand before the first newline
unfoldable pub line_span : List ℕ → ℕ
line_span [] = 0
line_span (b ∷ bs) = cond (eqb b 10) 0 (suc (line_span bs))

-- r is where the line that starts at from ends
pub record Ends (chunk : List ℕ) (from r : ℕ) : Type 0 where
  pub is : r ≡ from + line_span (drop from chunk)
  pub most : r ≤ length chunk
  pub stop : r < length chunk → get_or chunk r 0 ≡ 10

-- the first r bytes of new are the ones to keep; those beyond are old's
pub record Kept (old keep new : List ℕ) (r : ℕ) : Type 0 where
  pub is : take r new ≡ keep
  pub rest : drop r new ≡ drop r old
  pub most : r ≤ 81
  pub long : length new ≡ length old

-- what is held as a line ends with part, and that line: part alone where nothing was held
abbrev pub join_of : List ℕ → List ℕ → List ℕ
join_of [] part = []
join_of (b ∷ h) part = take 81 ((b ∷ h) ++ part)

abbrev pub full_line : List ℕ → List ℕ → List ℕ
full_line [] part = part
full_line (b ∷ h) part = b ∷ h

-- the state before an input: no controller, whatever the tables hold, and no byte
abbrev pub Started : State → Type 0
Started s = (active configured used counters events waiters : List ℕ) → stream (controller_of s.«record» active configured used counters events waiters) (take s.len s.line) [] ≡ stream_of []

-- one line's answer stands at a position of new
pub record Answered (c : Controller) (line old : List ℕ) (at : ℕ) (c' : Controller) (new : List ℕ) (r : ℕ) : Type 0 where
  pub controller_is : c' ≡ after_line c line
  pub wrote : Wrote line_room old at (printed_for c line) new r

-- out has the first r bytes that a chunk is answered with, and a controller and held bytes follow
pub record Fed (c : Controller) (held chunk : List ℕ) (c' : Controller) (held' out : List ℕ) (r : ℕ) : Type 0 where
  pub is : stream c' held' (take r out) ≡ feed_of (stream c held []) chunk
  -- whatever text came before, however it was cut: what was written for it and these bytes are the answers to the ended lines of both
  pub so_far : (text written : List ℕ) → stream c held written ≡ stream_of text → stream c' held' (written ++ take r out) ≡ stream_of (text ++ chunk)
  pub used : r ≤ length out

-- out has the first r bytes that the end of input is answered with
pub record Finished (c : Controller) (held out : List ℕ) (r : ℕ) : Type 0 where
  pub is : take r out ≡ last_printed c held
  -- whatever text came before: all that was written is the output of the whole input
  pub whole : (text written : List ℕ) → stream c held written ≡ stream_of text → written ++ take r out ≡ output_of text
  pub used : r ≤ length out

-- kept: the words of the tables beyond the largest set-up's 2,048 pairs, 256 MCIDs and 256 RCIDs, and the bytes beyond the first r of out
-- the words before those and beyond the controller's own are what earlier controllers left, which nobody reads
pub record KeptBeyond (active configured used counters events waiters out active' configured' used' counters' events' waiters' out' : List ℕ) (r : ℕ) : Type 0 where
  pub tables : KeptFrom 2048 256 256 active configured used counters events waiters active' configured' used' counters' events' waiters'
  pub bytes : drop r out' ≡ drop r out
