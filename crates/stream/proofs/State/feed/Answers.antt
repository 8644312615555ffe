use Rattle.std.proofs.Common.{rules}
use mathlib.Core.Path.{◌≡◌, ap, ◌∙◌}
use mathlib.Core.List.{List}
use Prim.Native.Nat.{ℕ, ◌-◌}
use native.Mathlib.Omega.{arith}
use lib.ListN.{length, take, drop}
use lib.Seq.{length-take-le}
use Rattle.stream.specs.Stream.{full_line}
use Rattle.stream.proofs.Laws.{at_newline, at_end_lem, kept_more, fed_by, take_min}
use Rattle.stream.proofs.State.feed.Goals as goal

pub loop-i-preserved : goal.loop-i-preserved
loop-i-preserved c =
    let l = c.loop-i in
    let t = c.loop-i-test in
    let p = c.requires in
    let s = c.args in
    let j = c.join-n in
    let a = c.answer-end in
    let z : length (take l.n l.self.line) ≡ l.n = length-take-le _ _ (omega (arith, l.invariant.few, l.invariant.long)) in
    record {
      ends = c.line_end-i-in-loop-i.ensures;
      few = search rules;
      long = search rules;
      of_active = search rules;
      of_configured = search rules;
      of_used = search rules;
      of_counters = search rules;
      of_events = search rules;
      of_waiters = search rules;
      size = search rules;
      room = search rules;
      is = l.invariant.is ∙ at_newline s.chunk.now l.from l.i l.invariant.ends _ (take l.n l.self.line) (omega (arith, l.invariant.few)) _ _ _ _ l.end a.result t.true
          (c.full_line.ensures ∙ ap (λ (h : List ℕ). full_line h (take (l.i - l.from) (drop l.from s.chunk.now))) j.ensures.is) a.ensures.answers;
      kept = kept_more l.invariant.kept a.ensures.tables a.ensures.answers.wrote;
    }

pub returns-clause-answers : goal.returns-clause-answers
returns-clause-answers c =
    let l = c.loop-i in
    let s = c.args in
    let g = c.well_formed in
    let long : length s.self.now.line ≡ 81 = search rules in
    let z : length (take l.n l.self.line) ≡ l.n = length-take-le _ _ (omega (arith, l.invariant.few, l.invariant.long)) in
    let same = take_min s.self.now.len 81 c.min-n.result s.self.now.line c.min-n.ensures (omega arith) in
    let is = l.invariant.is ∙ at_end_lem s.chunk.now l.from l.i l.invariant.ends _ (take l.n l.self.line) (omega (arith, l.invariant.few)) _ _ (omega (arith, l.invariant.ends.most)) c.hold-self.ensures.is in
    fed_by same is (search rules)
