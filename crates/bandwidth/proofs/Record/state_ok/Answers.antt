use native.Mathlib.Nat.{mul-le-mul}
use native.Mathlib.Omega.{arith}
use Rattle.std.proofs.Common.{rules}
use Rattle.bandwidth_model.specs.Model.{registers_ok}
use Rattle.bandwidth.specs.View.{state}
use Rattle.bandwidth.proofs.Checks.{not_formed, well_formed_is, state_found}
use Rattle.bandwidth.proofs.Record.state_ok.Goals as goal

pub overflow_mul-left : goal.overflow_mul-left
overflow_mul-left c =
    let p = c.requires in
    omega (arith, mul-le-mul {n₁ = c.saturating_sub.result} {n₂ = 65535} (omega (arith, c.saturating_sub.ensures, p.nbwblks_high)) p.q_high)

pub returns-in_err-totals : goal.returns-in_err-totals
returns-in_err-totals c active configured used counters events waiters t =
    rw c.from_residual.ensures (not_formed _ (rw c.in_err-totals.was at t))

pub returns : goal.returns
unfolding registers_ok
returns c active configured used counters events waiters t =
    let s = state c.args.self.now active configured used counters events waiters in
    let h = rw c.in_ok-totals.was at t in
    rw c.then_some.ensures
    (state_found s _ c.in_ok-totals.totals
    (well_formed_is s (search rules) h.0 h.1.active c.saturating_sub.ensures c.registers_ok.ensures c.control_ok.ensures) h.1)
