use mathlib.Core.Path.{ap, ◌∙◌}
use Prim.Native.Nat.{ℕ}
use lib.ListN.{replicate}
use Rattle.bandwidth.proofs.reset.reset_tables.Goals as goal

pub returns : goal.returns
returns c =
    let sized = c.requires.1 in
    let configured = c.reset_table.ensures in
    record {
      active_is = c.copy_from_slice.ensures.after ∙ configured;
      configured_is = configured;
      used_is = c.fill.ensures.after (λ _ e. e) ∙ ap (λ (n : ℕ). replicate n 0) sized.used_long;
      counters_are = c.fill-2.ensures.after (λ _ e. e) ∙ ap (λ (n : ℕ). replicate n 0) sized.counters_long;
      events_are = c.fill-3.ensures.after (λ _ e. e) ∙ ap (λ (n : ℕ). replicate n 0) sized.events_long;
      waiters_are = c.fill-4.ensures.after (λ _ e. e) ∙ ap (λ (n : ℕ). replicate n 0) sized.waiters_long;
    }
