-- The cases of the operand rules hold of the definitions, by computation.
use mathlib.Core.Path.{refl}
use Rattle.tables.specs.Below.{sum_below, all_below, any_below, sum_of}
use Rattle.access.specs.Pairs.{pair, word_at}
use Rattle.bandwidth_model.specs.Rules as rules
use Rattle.bandwidth_model.specs.Model.{table_ok, pairs_ok, pair_ok}
use Rattle.bandwidth_model.specs.Operands.{as_holder, as_sharer, Operands}

pub operands : Operands
unfolding as_holder as_sharer table_ok pairs_ok pair_ok rules.one_weight rules.weights_agree rules.bad_operand rules.bad_sharer rules.shares rules.bad_holder rules.total rules.reserved rules.is_sharer rules.is_holder rules.stored_form rules.sharer_word rules.holder_word rules.use_shared_of rules.shared_at_of rules.weight_of rules.rbwb_of pair word_at sum_below all_below any_below sum_of
operands = record { formed = refl; held = refl; uncounted = refl; shared = refl }
