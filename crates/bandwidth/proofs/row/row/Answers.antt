use mathlib.Core.Path.{sym, ◌∙◌}
use Prim.Native.Nat.{◌*◌, ◌+◌, ◌≤◌}
use native.Mathlib.Omega.{arith}
use Rattle.tables.proofs.Tests.{of_true}
use Rattle.bandwidth_model.proofs.Setup.{ranges}
use Rattle.bandwidth_setup.specs.View.{setup_of}
use Rattle.bandwidth.proofs.Reader.{none_1, none_2, there, inside, short}
use Rattle.bandwidth.proofs.row.row.Goals as goal

-- the row ends within 2,048 words
short_row : (c : goal.After-struct_known-then-configured-pairs-1) → let a = c.args in a.rcid * a.setup.na + a.setup.na ≤ 2048
short_row c =
    let a = c.args in
    short (setup_of a.setup) a.configured.now a.rcid c.pairs-pairs.result c.pairs-pairs.ensures.is
    (ranges _ (of_true (sym c.in_range.ensures ∙ c.if-in_range.true))) c.if-configured-pairs.true

pub pairs-pairs-requires : goal.pairs-pairs-requires
pairs-pairs-requires c = ranges _ (of_true (sym c.in_range.ensures ∙ c.if-in_range.true))

pub overflow_mul-from : goal.overflow_mul-from
overflow_mul-from c = omega (arith, short_row c)

pub overflow_add-to : goal.overflow_add-to
overflow_add-to c = omega (arith, short_row c)

pub offset_bounds-configured-from : goal.offset_bounds-configured-from
offset_bounds-configured-from c = omega (arith, short_row c)

pub slice_bounds-result-end : goal.slice_bounds-result-end
slice_bounds-result-end c =
    let a = c.args in
    inside (setup_of a.setup) a.configured.now a.rcid c.pairs-pairs.result c.pairs-pairs.ensures.is c.if-configured-pairs.true

pub returns-then-configured-pairs : goal.returns-then-configured-pairs
returns-then-configured-pairs c =
    there _ _ _ _ c.pairs-pairs.ensures.is (sym c.if-in_range.true ∙ c.in_range.ensures) c.if-configured-pairs.true

pub returns-else-configured-pairs : goal.returns-else-configured-pairs
returns-else-configured-pairs c = none_2 _ _ _ _ c.pairs-pairs.ensures.is (sym c.if-in_range.true ∙ c.in_range.ensures) c.if-configured-pairs.false

pub returns-else-in_range : goal.returns-else-in_range
returns-else-in_range c = none_1 _ _ _ (sym c.if-in_range.false ∙ c.in_range.ensures)
