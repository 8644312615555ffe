use mathlib.Core.Path.{◌≡◌, refl, ◌∙◌}
use Prim.Native.Nat.{min}
use lib.Dec.{eqb}
use native.Mathlib.Nat.{min-eq_left}
use native.Mathlib.Omega.{arith}
use Rattle.access.proofs.Pairs.{known_lt}
use Rattle.bandwidth_grants.proofs.Steps.{pick_le}
use Rattle.bandwidth_model.specs.Waiters.{put_word}
use Rattle.bandwidth_waiters.proofs.words.put_word.Goals as goal

pub waiter_word-requires : goal.waiter_word-requires
waiter_word-requires c =
    let k = c.before in
    let s = k.before in
    let p = s.requires.0 in
    (omega (arith, c.pick.ensures, pick_le (eqb s.args.kind 0) 0 1), (omega (arith, k.known_at.ensures, known_lt s.args.setup.na s.args.at p.na_low, p.na_high), (omega (arith, s.requires.1, p.nm_high), (omega (arith, s.from.ensures), tt))))

pub returns : goal.returns
unfolding put_word
returns c =
    let k = c.before in
    let all : min k.args.bytes 4294967295 ≡ k.args.bytes = min-eq_left (omega arith) in
    c.waiter_word.ensures ∙ rw (k.before.from.ensures, c.pick.ensures, k.known_at.ensures, all) refl
