use Rattle.monitor.proofs.counted_bytes.Goals as goal

pub returns-then-counts_request : goal.returns-then-counts_request
returns-then-counts_request c = rw (← c.counts_request.ensures, c.if-counts_request.true) c.add_bytes.ensures

pub returns-else-counts_request : goal.returns-else-counts_request
returns-else-counts_request c = rw (← c.counts_request.ensures, c.if-counts_request.false)
