-- Laws of the lines of a chunk.
use mathlib.Core.Path.{◌≡◌, refl, sym, ap, ◌∙◌}
use mathlib.Core.Bool.{Bool, true, false}
use mathlib.Core.List.{List, [], ◌∷◌, ◌++◌, append-nil, append_assoc}
use Prim.Native.Nat.{ℕ, zero, suc, ◌+◌, ◌-◌, ◌*◌, ◌≤◌, ◌<◌}
use native.Mathlib.Numerals.{add-one}
use native.Mathlib.Omega.{arith}
use borrow.Author.Tests.{eq-eqb, ne_eqb}
use lib.Dec.{leb, eqb}
use lib.ListN.{length, length-append, length-drop, drop, get_or, take, drop_of_length-le}
use borrow.Author.Tests.{leb-true, leb-false}
use lib.Seq.{take-append-add, drop-cons, drop-drop, drop-length, take_all, take-take, length-take-le}
use borrow.Rule.Slice.PartMut.{put_mid}
use Rattle.std.specs.Prelude.{Option, min}
use Rattle.std.proofs.lemmas.Slice.{take-put_mid, drop-put_mid}
use Rattle.parse.specs.Parse.{parse_of}
use Rattle.parse.specs.declared.Command.{Command}
use Rattle.print.specs.declared.Reply.{Reply}
use Rattle.print.specs.Print.{line_of, line_room, Wrote}
use Rattle.print.proofs.Laws.{beyond, wrote_as}
use Rattle.session.specs.Session.{Controller, Turn, turn, turn_of}
use Rattle.session.specs.View.{controller_of, KeptFrom}
use Rattle.session.proofs.Laws.{kept_both}
use Rattle.bandwidth.specs.declared.Record.{Record}
use Rattle.stream.specs.Output.{after_line, printed_for}
use Rattle.stream.specs.Stream.{Stream, stream, byte, feed_of, last_printed, line_span, Ends, Kept, join_of, full_line, Answered, Fed, Finished, KeptBeyond}
use Rattle.stream.proofs.Cut.{after_cut, printed_cut, take_twice}
use Rattle.stream.proofs.Whole.{fed_after, finished_after}

-- parse, act and print are one answer
pub answered : {c c' : Controller} {line old new : List ℕ} {at r : ℕ} {command : Option Command} {reply : Reply} → command ≡ parse_of line
    → turn c' reply ≡ turn_of c command → Wrote line_room old at (line_of reply) new r → Answered c line old at c' new r
unfolding after_line printed_for
answered {c} {c'} {line} {old} {new} {at} {r} {command} {reply} p q w =
    let o : turn c' reply ≡ turn_of c (parse_of line) = q ∙ ap (turn_of c) p in
    record {
      controller_is = ap (λ (t : Turn). t.controller) o;
      wrote = wrote_as w (ap (λ (t : Turn). line_of t.reply) o) (omega arith);
    }

-- ---- where a line ends

pub span_end : (s : List ℕ) (i : ℕ) → length s ≤ i → line_span (drop i s) ≡ 0
unfolding line_span
span_end s i h = rw (drop_of_length-le s {i = i} h)

module _ (s : List ℕ) (i : ℕ) (h : i < length s) where
  pub span_stop : get_or s i 0 ≡ 10 → line_span (drop i s) ≡ 0
  unfolding line_span
  span_stop e = rw (drop-cons s i 0 h, eq-eqb (get_or s i 0) 10 e)

  pub span_more : (get_or s i 0 ≡ 10 → ⊥) → line_span (drop i s) ≡ suc (line_span (drop (i + 1) s))
  unfolding line_span
  span_more e = rw (add-one i, drop-cons s i 0 h, ne_eqb (get_or s i 0) 10 e)

-- ---- what is held

take_by : (x : Bool) (a b r : ℕ) (l : List ℕ) → leb a b ≡ x → r ≡ min a b → length l ≤ b → take r l ≡ take a l
take_by true a b r l x e h = let k : a ≤ b = leb-true a b x in ap (λ (n : ℕ). take n l) (omega arith)
take_by false a b r l x e h = let k : b < a = leb-false a b x in take_all r l (omega arith) ∙ sym (take_all a l (omega arith))

-- a length beyond the list's own stands for all of it
pub take_min : (a b r : ℕ) (l : List ℕ) → r ≡ min a b → length l ≤ b → take r l ≡ take a l
take_min a b r l e h = take_by (leb a b) a b r l refl e h

-- a part behind the bytes held, as far as 81 bytes go
pub held_more : (line part copied : List ℕ) (start more : ℕ) → start ≤ 81 → length line ≡ 81 → more ≡ min (length part) (81 - start) → copied ≡ take more part
    → Kept line (take 81 (take start line ++ part)) (put_mid start (start + more - start) line copied) (start + more)
held_more line part copied start more h l m e =
    let k : length copied ≡ more = rw e (length-take-le more part (omega arith)) in
    let f : length (take start line) ≡ start = length-take-le start line (omega arith) in
    let n : length (take start line) + (81 - start) ≡ 81 = omega arith in
    let s : take 81 (take start line ++ part) ≡ take start line ++ take (81 - start) part = rw n at (take-append-add (take start line) part (81 - start)) in
    let c : copied ≡ take (81 - start) part = e ∙ take_min (81 - start) (length part) more part (omega arith) (omega arith) in
    record {
      is = take-put_mid start (start + more - start) line copied (start + more) (omega arith) (omega arith) ∙ ap (λ (t : List ℕ). take start line ++ t) c ∙ sym s;
      rest = drop-put_mid start (start + more - start) line copied (start + more) (omega arith) (omega arith) (omega arith);
      most = omega arith;
      long = simp (length-append, length-drop) (omega arith);
    }

pub joined : (held part : List ℕ) → (length held ≡ 0 → ⊥) → take 81 (held ++ part) ≡ join_of held part
joined [] part h = absurd (h refl)
joined (b ∷ held) part h = refl

pub full_part : (held part : List ℕ) → length held ≡ 0 → part ≡ full_line held part
full_part [] part h = refl
full_part (b ∷ held) part h = absurd (omega arith)

pub full_held : (held part : List ℕ) → (length held ≡ 0 → ⊥) → held ≡ full_line held part
full_held [] part h = absurd (h refl)
full_held (b ∷ held) part h = refl

both : (held part : List ℕ) → take 81 (full_line (join_of held part) part) ≡ take 81 (held ++ part)
both [] part = refl
both (b ∷ held) part = take-take 81 81 ((b ∷ held) ++ part) (omega arith)

-- ---- one line

-- the bytes before a newline join those held
abbrev Joins : List ℕ → Type 0
Joins t = (c : Controller) (h w : List ℕ) → feed_of (stream c (take 81 h) w) t ≡ feed_of (stream c (take 81 (h ++ take (line_span t) t)) w) (drop (line_span t) t)

joins_by : (x : Bool) (b : ℕ) (t : List ℕ) → eqb b 10 ≡ x → Joins t → Joins (b ∷ t)
unfolding feed_of byte line_span
joins_by true b t e f c h w = rw (e, append-nil h, e)
joins_by false b t e f c h w = rw (e, take_twice 81 h (b ∷ [])) (rw (append_assoc h (b ∷ []) (take (line_span t) t)) at (f c (h ++ (b ∷ [])) w))

joins : (t : List ℕ) → Joins t
unfolding line_span
joins [] c h w = rw (append-nil h)
joins (b ∷ t) c h w = joins_by (eqb b 10) b t refl (joins t) c h w

-- a newline ends the line that is held
abbrev ended : Stream → Stream
ended s = stream (after_line s.controller s.held) [] (s.written ++ printed_for s.controller s.held)

newline_byte : (s : Stream) (b : ℕ) → b ≡ 10 → byte s b ≡ ended s
unfolding byte
newline_byte s b e = rw (eq-eqb b 10 e)

newline : (chunk : List ℕ) (i : ℕ) → i < length chunk → get_or chunk i 0 ≡ 10 → (s : Stream) → feed_of s (drop i chunk) ≡ feed_of (ended s) (drop (i + 1) chunk)
unfolding feed_of
newline chunk i h e s = rw (add-one i, drop-cons chunk i 0 h) (ap (λ (u : Stream). feed_of u (drop (suc i) chunk)) (newline_byte s (get_or chunk i 0) e))

module _ (chunk : List ℕ) (from i : ℕ) (ends : Ends chunk from i) (c : Controller) (held : List ℕ) (few : length held ≤ 81) where
  abbrev part : List ℕ
  part = take (i - from) (drop from chunk)

  to_end : (w : List ℕ) → feed_of (stream c held w) (drop from chunk) ≡ feed_of (stream c (take 81 (held ++ part)) w) (drop i chunk)
  to_end w =
      let t = drop from chunk in
      let l : i - from ≡ line_span t = omega (arith, ends.is) in
      let r : drop i chunk ≡ drop (line_span t) t = ap (λ (j : ℕ). drop j chunk) ends.is ∙ sym (drop-drop (line_span t) from chunk) in
      rw (l, r) (rw (take_all 81 held few) at (joins t c held w))

  pub at_newline : (c' : Controller) (line old new : List ℕ) (at r : ℕ) → i < length chunk → line ≡ full_line (join_of held part) part → Answered c line old at c' new r
      → feed_of (stream c held (take at old)) (drop from chunk) ≡ feed_of (stream c' [] (take r new)) (drop (i + 1) chunk)
  at_newline c' line old new at r h q a =
      to_end (take at old)
      ∙ newline chunk i h (ends.stop h) (stream c (take 81 (held ++ part)) (take at old))
      ∙ ap (λ (l : List ℕ). feed_of (stream (after_line c l) [] (take at old ++ printed_for c l)) (drop (i + 1) chunk)) (sym (both held part) ∙ ap (take 81) (sym q))
      ∙ rw (after_cut c line, printed_cut c line, a.controller_is, a.wrote.is)

  pub at_end_lem : (held' w : List ℕ) → i ≡ length chunk → held' ≡ take 81 (held ++ take (length chunk - from) (drop from chunk)) → feed_of (stream c held w) (drop from chunk) ≡ stream c held' w
  unfolding feed_of
  at_end_lem held' w e q = to_end w ∙ rw (e, drop-length chunk, q)

-- ---- what is kept: one answer more

pub kept_more : {active configured used counters events waiters out active' configured' used' counters' events' waiters' mid active'' configured'' used'' counters'' events'' waiters'' new text : List ℕ} {room e r : ℕ} → KeptBeyond active configured used counters events waiters out active' configured' used' counters' events' waiters' mid e → KeptFrom 2048 256 256 active' configured' used' counters' events' waiters' active'' configured'' used'' counters'' events'' waiters''
    → Wrote room mid e text new r → KeptBeyond active configured used counters events waiters out active'' configured'' used'' counters'' events'' waiters'' new r
kept_more {out = out} {mid = mid} {e = e} {r = r} k t w = record { tables = kept_both k.tables t; bytes = w.rest ∙ beyond e r mid out w.grows k.bytes }

-- ---- the loop's invariant: what is left of the chunk leads to the same end

pub record Going (start : Stream) (chunk out₀ active₀ configured₀ used₀ counters₀ events₀ waiters₀ : List ℕ) (r : Record) (active configured used counters events waiters line : List ℕ)
    (n end from i : ℕ) (out : List ℕ) : Type 0 where
  pub ends : Ends chunk from i
  pub few : n ≤ 81
  pub long : length line ≡ 81
  pub of_active : length active ≡ length active₀
  pub of_configured : length configured ≡ length configured₀
  pub of_used : length used ≡ length used₀
  pub of_counters : length counters ≡ length counters₀
  pub of_events : length events ≡ length events₀
  pub of_waiters : length waiters ≡ length waiters₀
  pub size : length out ≡ length out₀
  pub room : end + line_room * (length chunk - from) ≤ length out
  pub is : feed_of start chunk ≡ feed_of (stream (controller_of r active configured used counters events waiters) (take n line) (take end out)) (drop from chunk)
  pub kept : KeptBeyond active₀ configured₀ used₀ counters₀ events₀ waiters₀ out₀ active configured used counters events waiters out end

-- ---- the promises, from their equations

fed_is : {c c' : Controller} {held chunk held' out : List ℕ} {r : ℕ} → stream c' held' (take r out) ≡ feed_of (stream c held []) chunk → r ≤ length out
    → Fed c held chunk c' held' out r
fed_is {c} {c'} {held} {chunk} {held'} {out} {r} e l =
    record {
      is = e;
      so_far = λ text written h. ap (λ (s : Stream). stream s.controller s.held (written ++ s.written)) e ∙ fed_after c held written text chunk h;
      used = l;
    }

pub fed_by : {c c' : Controller} {line held chunk held' out : List ℕ} {r : ℕ} → line ≡ held → feed_of (stream c line []) chunk ≡ stream c' held' (take r out) → r ≤ length out
    → Fed c held chunk c' held' out r
fed_by e p l = rw (← e) (fed_is (sym p) l)

finished_by : {c : Controller} {held out : List ℕ} {r : ℕ} → take r out ≡ last_printed c held → r ≤ length out → Finished c held out r
finished_by {c} {held} {out} {r} e l =
    record {
      is = e;
      whole = λ text written h. ap (λ (x : List ℕ). written ++ x) e ∙ finished_after c held written text h;
      used = l;
    }

-- no line is left
pub finished_none : {c : Controller} {held out : List ℕ} → length held ≡ 0 → Finished c held out 0
finished_none {held = []} e = finished_by refl (omega arith)
finished_none {held = b ∷ l} e = absurd (omega arith)

-- a line is left, and a newline ends it
pub finished_line : {c c' : Controller} {held held' out : List ℕ} {r : ℕ} → (length held ≡ 0 → ⊥) → Fed c held (10 ∷ []) c' held' out r → Finished c held out r
unfolding feed_of byte
finished_line {held = []} h f = absurd (h refl)
finished_line {held = b ∷ held} h f = finished_by (ap (λ (s : Stream). s.written) f.is) f.used

pub some_held : (n : ℕ) (line : List ℕ) → length line ≡ 81 → (n ≡ 0 → ⊥) → length (take n line) ≡ 0 → ⊥
some_held zero line long h e = h refl
some_held (suc n) [] long h e = omega arith
some_held (suc n) (b ∷ line) long h e = omega arith
