use native.Mathlib.Omega.{arith}
use Rattle.bandwidth_model.specs.Rules.{pairs}
use Rattle.bandwidth.proofs.Calls.{alloc_reserves, ready}
use Rattle.bandwidth_bytes.proofs.Calls.{alloc_written, bw_written, mon_written, none_written}
use Rattle.bandwidth_bytes.proofs.write.store.Goals as goal

pub write_alloc-done-requires : goal.write_alloc-done-requires
unfolding pairs
write_alloc-done-requires c = let p = c.requires in (alloc_reserves p.passes, omega (arith, p.long.tables.configured_long))

pub returns-in-24 : goal.returns-in-24
returns-in-24 c =
    let p = c.requires in
    alloc_written p _ _ c.in-24.is (c.write_alloc-done.ensures _ p.words.configured (ready p.passes))

pub returns-in-32 : goal.returns-in-32
returns-in-32 c = bw_written c.requires _ _ c.in-32.is c.bw_word.ensures.is

pub returns-in-8 : goal.returns-in-8
returns-in-8 c = mon_written c.requires _ _ c.in-8.is c.mon_status-status.ensures c.write_mon-done.ensures

pub returns-in_default : goal.returns-in_default
returns-in_default c = let r = c.in_default.in_default-own.rest in none_written c.requires _ _ r.0.0.1 r.0.1 r.1
