use mathlib.Core.Path.{ap, ◌∙◌}
use Prim.Native.Nat.{ℕ}
use native.Mathlib.Nat.{mul-le-mul}
use native.Mathlib.Omega.{arith}
use lib.ListN.{replicate}
use Rattle.bandwidth.proofs.Windows.{window_opens, window_size, window_served}
use Rattle.bandwidth.proofs.Record.open_window.Goals as goal

pub overflow_mul-size : goal.overflow_mul-size
overflow_mul-size c =
    let r = c.requires.ranges in
    omega (arith, mul-le-mul {n₁ = c.saturating_sub.result} {n₂ = 65535} (omega (arith, c.saturating_sub.ensures, r.nbwblks_high)) r.q_high)

pub weights_of-weights-requires : goal.weights_of-weights-requires
weights_of-weights-requires c = window_opens c.requires

pub serve_all-self-requires : goal.serve_all-self-requires
serve_all-self-requires c =
    let p = c.requires in
    (window_opens p, (c.fill.ensures.after (λ _ e. e) ∙ ap (λ (n : ℕ). replicate n 0) p.sized.used_long, (window_size p c.saturating_sub.ensures, c.weights_of-weights.ensures)))

pub returns : goal.returns
returns c =
    let p = c.requires in
    window_served p c.copy_from_slice.ensures.after (c.fill.ensures.after (λ _ e. e) ∙ ap (λ (n : ℕ). replicate n 0) p.sized.used_long)
    (window_size p c.saturating_sub.ensures) c.weights_of-weights.ensures c.serve_all-self.ensures
