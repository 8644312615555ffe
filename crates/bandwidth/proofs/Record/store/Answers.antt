use Rattle.bandwidth.proofs.Calls.{write_alloc_at, write_bw_at, write_mon_at, write_none}
use Rattle.bandwidth.proofs.Record.store.Goals as goal

pub returns-in-24 : goal.returns-in-24
returns-in-24 c = write_alloc_at _ _ _ _ c.in-24.is c.write_alloc-done.ensures

pub returns-in-32 : goal.returns-in-32
returns-in-32 c = write_bw_at _ _ _ _ c.in-32.is c.bw_word-self.ensures.is

pub returns-in-8 : goal.returns-in-8
returns-in-8 c =
    write_mon_at _ _ _ _ _ c.in-8.is c.mon_status-status.ensures c.write_mon-done.ensures

pub returns-in_default : goal.returns-in_default
returns-in_default c = let r = c.in_default.in_default-own.rest in write_none _ _ _ r.0.0.1 r.0.1 r.1
