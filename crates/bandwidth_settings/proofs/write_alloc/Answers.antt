use native.Mathlib.Omega.{arith}
use Rattle.bandwidth_setup.specs.View.{setup_of}
use Rattle.bandwidth_settings.proofs.Rows.{row_end, row_reserves, row_write}
use Rattle.bandwidth_settings.proofs.write_alloc.Goals as goal

pub slice_bounds-write_row-end : goal.slice_bounds-write_row-end
slice_bounds-write_row-end c =
    let a = c.before in
    omega (arith, row_end (setup_of a.args.setup) a.args.configured.now a.requires.long c.row_named-row.ensures)

pub write_row-requires : goal.write_row-requires
write_row-requires c = row_reserves c.requires

pub returns : goal.returns
returns c =
    let n = c.before in
    row_write n.requires _ _ n.row_named-row.ensures c.write_row.ensures
