use mathlib.Core.Path.{ap}
use mathlib.Core.List.{List}
use Prim.Native.Nat.{ℕ}
use lib.ListN.{get_or}
use Rattle.bandwidth_setup.specs.View.{setup_of}
use Rattle.bandwidth_model.specs.Waiters.{need_of, waiter_mcid, waiter_at}
use Rattle.bandwidth_waiters.proofs.Forms.{waiter_test}
use Rattle.bandwidth_waiters.proofs.words.waiter_ok.Goals as goal

pub returns : goal.returns
unfolding need_of waiter_mcid waiter_at
returns c =
    let a = c.args in
    let fields = c.unpack-waiter.ensures.is in
    waiter_test (setup_of a.setup) a.word (ap (λ (vs : List ℕ). get_or vs 3 0) fields) (ap (λ (vs : List ℕ). get_or vs 2 0) fields) (ap (λ (vs : List ℕ). get_or vs 1 0) fields)
