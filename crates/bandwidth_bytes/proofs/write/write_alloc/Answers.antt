use mathlib.Core.Path.{sym}
use native.Mathlib.Nat.{le_trans}
use native.Mathlib.Omega.{arith}
use lib.ListN.{replicate}
use lib.Seq.{length-take-le}
use Rattle.bandwidth_bytes.proofs.Parts.{alloc_stored}
use Rattle.bandwidth_bytes.proofs.write.write_alloc.Goals as goal

pub slice_bounds-write_loaded-end : goal.slice_bounds-write_loaded-end
slice_bounds-write_loaded-end c = sym (length-take-le _ (replicate 8 0) (le_trans c.row_named-place.ensures.short c.requires.0.ranges.na_high))

pub write_loaded-requires : goal.write_loaded-requires
write_loaded-requires c =
    let p = c.requires in
    let r = c.row_named-place.ensures in
    (p.0, (omega (arith, p.1, r.order, r.inside), length-take-le _ (replicate 8 0) (le_trans r.short p.0.ranges.na_high)))

pub returns : goal.returns
returns c = alloc_stored c.row_named-place.ensures c.write_loaded.ensures
