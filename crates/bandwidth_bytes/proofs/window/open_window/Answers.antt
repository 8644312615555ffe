use mathlib.Core.Path.{sym, ◌∙◌}
use native.Mathlib.Nat.{mul-le-mul}
use native.Mathlib.Omega.{arith}
use Rattle.bandwidth_bytes.proofs.Windows.{window_still, window_weighs, window_begins, window_turned}
use Rattle.bandwidth_bytes.proofs.window.open_window.Goals as goal

-- the tables of settings are of one length
pub copy_bytes-requires : goal.copy_bytes-requires
copy_bytes-requires c =
    let z = c.requires.long.tables in
    z.active_long ∙ sym z.configured_long

pub returns-then-union64-eq0 : goal.returns-then-union64-eq0
returns-then-union64-eq0 c = window_still c.requires _ _ _ c.put.ensures c.copy_bytes.ensures (c.fill.ensures.after (λ n e. e)) c.union64.ensures c.if-union64-eq0.true

pub overflow_mul-size : goal.overflow_mul-size
overflow_mul-size c =
    let r = c.requires.passes.ranges in
    omega (arith, mul-le-mul {n₁ = c.saturating_sub.result} {n₂ = 65535} (omega (arith, c.saturating_sub.ensures, r.nbwblks_high)) r.q_high)

pub weights_of-weights-requires : goal.weights_of-weights-requires
weights_of-weights-requires c = window_weighs c.requires

pub serve_all-pool-requires : goal.serve_all-pool-requires
serve_all-pool-requires c =
    window_begins c.requires (c.fill.ensures.after (λ n e. e)) c.saturating_sub.ensures c.weights_of-weights.ensures c.fill.auto.self
    (λ i. (c.slice_known-7-1.given i).fits)

pub returns : goal.returns
returns c =
    window_turned c.requires (c.fill.ensures.after (λ n e. e)) c.saturating_sub.ensures c.weights_of-weights.ensures _ _ _ _ _ c.put-2.ensures c.copy_bytes.ensures
    c.serve_all-pool.ensures
