use mathlib.Core.Path.{sym, ap, ◌∙◌}
use Prim.Native.Nat.{ℕ}
use native.Mathlib.Nat.{zero-mul}
use Rattle.tables.specs.View.{union_below}
use Rattle.tables.proofs.Union.{union_none}
use Rattle.bandwidth_wellformed.specs.Bits.{over_at}
use Rattle.bandwidth_wellformed.proofs.Passes.{none_summed}
use Rattle.bandwidth_wellformed.proofs.settings.no_sums.Goals as goal

pub returns : goal.returns
returns c na q active configured used =
    record {
      active = none_summed na active;
      configured = none_summed na configured;
      over = sym (ap (λ (k : ℕ). union_below k (over_at q active used)) (zero-mul na) ∙ union_none (over_at q active used));
    }
