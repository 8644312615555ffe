use Rattle.std.proofs.Common.{ℕ, ◌-◌, ◌*◌, ◌^◌, ap, ◌∙◌, arith}
use Rattle.numbers.proofs.Lists.{words_hold}
use Rattle.mask_tables.proofs.highest.Goals as goal

pub overflow_sub-c : goal.overflow_sub-c
overflow_sub-c c = omega (arith, (words_hold c.args.c c.requires.0).1.0)

pub ones-requires : goal.ones-requires
ones-requires c = omega (arith, (words_hold c.args.c c.requires.0).1.1)

pub returns : goal.returns
returns c =
    c.ones.ensures ∙ ap (λ (n : ℕ). 2 ^ (c.args.c - 64 * (n - 1)) - 1) c.words_for.ensures.0
