use Prim.Native.Nat.{◌≤◌, ◌<◌}
use Rattle.access.specs.Access.{registers_end, read_checks}
use Rattle.access.proofs.Access.{size_range, ends_inside}
use Rattle.access.proofs.check_read.Goals as goal

size_known : (c : goal.Then-size) → (0 < c.args.size) × (c.args.size ≤ registers_end)
size_known c = size_range c.args.size c.if-size.true

pub nonzero_rem-offset : goal.nonzero_rem-offset
nonzero_rem-offset c = (size_known c).0

pub overflow_sub-size : goal.overflow_sub-size
overflow_sub-size c = (size_known c).1

pub returns-then-offset-size : goal.returns-then-offset-size
unfolding read_checks
returns-then-offset-size c =
    let a = c.args in
    simp (c.if-size.true, ends_inside a.size a.offset (size_known c.before).1, c.if-offset-size.true)

pub returns-else-offset-size : goal.returns-else-offset-size
unfolding read_checks
returns-else-offset-size c =
    let a = c.args in
    simp (c.if-size.true, ends_inside a.size a.offset (size_known c.before).1, c.if-offset-size.false)

pub returns-else-size : goal.returns-else-size
unfolding read_checks
returns-else-size c = simp c.if-size.false
