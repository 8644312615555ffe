use mathlib.Core.Path.{◌≡◌, sym, ap, ◌∙◌}
use mathlib.Core.List.{List}
use Prim.Native.Nat.{ℕ, ◌*◌}
use lib.ListN.{length, replicate}
use Rattle.words.specs.Words.{bytes_of_all}
use Rattle.words.proofs.Table.{zero_bytes}
use Rattle.bandwidth_lent.proofs.reset.reset_tables.Goals as goal

-- a table that was cleared
zeros : (k n : ℕ) (old : List ℕ) {new : List ℕ} → new ≡ replicate (length old) 0 → length old ≡ n * k → new ≡ bytes_of_all k (replicate n 0)
zeros k n old e l = e ∙ ap (λ (m : ℕ). replicate m 0) l ∙ sym (zero_bytes k n)

pub returns : goal.returns
returns c =
    let l = c.requires.1 in
    record {
      active_is = c.reset_table.ensures;
      configured_is = c.reset_table-2.ensures;
      used_is = zeros 4 _ c.args.used.now (c.fill.ensures.after (λ n e. e)) l.used_long;
      counters_are = zeros 8 _ c.args.counters.now (c.fill-2.ensures.after (λ n e. e)) l.counters_long;
      events_are = zeros 2 _ c.args.events.now (c.fill-3.ensures.after (λ n e. e)) l.events_long;
      waiters_are = zeros 8 _ c.args.waiters.now (c.fill-4.ensures.after (λ n e. e)) l.waiters_long;
    }
