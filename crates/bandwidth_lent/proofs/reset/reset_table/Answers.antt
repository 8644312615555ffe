use mathlib.Core.Path.{sym}
use lib.ListN.{replicate}
use lib.Seq.{length-take-le}
use Rattle.bandwidth_lent.proofs.reset.reset_table.Goals as goal

pub slice_bounds-fill_table-end : goal.slice_bounds-fill_table-end
slice_bounds-fill_table-end c = sym (length-take-le _ (replicate 8 0) c.requires.0.na_high)

pub fill_table-requires : goal.fill_table-requires
fill_table-requires c = (c.requires.0, (c.requires.1, length-take-le _ (replicate 8 0) c.requires.0.na_high))
