use Rattle.std.proofs.Common.{◌≡◌, length, get_or, ◌∙◌, rules}
use Rattle.std.specs.Prelude.{sum_by}
use Rattle.std.specs.Int.Count.{ones}
use Rattle.tables.specs.Below.{sum_of}
use Rattle.numbers.specs.Numbers.{number_in}
use Rattle.numbers.proofs.Bits.{value_bits}
use Rattle.mask_tables.proofs.Loops.{sum_all}
use Rattle.mask_tables.proofs.count_bits.Goals as goal

pub returns : goal.returns
unfolding number_in sum_of
returns c =
    let t = c.args.mask.now in
    let all : c.sum.result ≡ sum_by ones t = search rules in
    λ n b. all ∙ sum_all ones t ∙ value_bits (length t) n (λ j. get_or t j 0) (λ j. (c.type_inv.mask j).fits) b
