use mathlib.Core.Path.{refl, ap, ◌∙◌}
use mathlib.Core.List.{List}
use Prim.Native.Nat.{ℕ}
use lib.ListN.{get_or}
use Rattle.bandwidth_model.specs.Waiters.{need_of, waiter_mcid, waiter_at, waiter_kind, served_word}
use Rattle.bandwidth_waiters.proofs.words.served_word.Goals as goal

pub returns : goal.returns
unfolding served_word need_of waiter_mcid waiter_at waiter_kind
returns c =
    let s = c.before in
    let e = s.unpack-waiter.ensures.is in
    c.waiter_word.ensures
    ∙ rw (s.saturating_sub.ensures, ap (λ (vs : List ℕ). get_or vs 3 0) e, ap (λ (vs : List ℕ). get_or vs 2 0) e, ap (λ (vs : List ℕ). get_or vs 1 0) e, ap (λ (vs : List ℕ). get_or vs 0 0) e) refl
