use Rattle.capacity_bytes.proofs.cache.flush_if.Goals as goal

pub returns-then-flushes : goal.returns-then-flushes
returns-then-flushes c = λ os ns es o n e. rw c.if-flushes.true (c.flush.ensures os ns es o n e)

pub returns-else-flushes : goal.returns-else-flushes
returns-else-flushes c = λ os ns es o n e. rw c.if-flushes.false (o.bytes_are, n.bytes_are)
