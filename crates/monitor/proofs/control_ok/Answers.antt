use Rattle.monitor.proofs.control_ok.Goals as goal

pub returns : goal.returns
returns c = rw (c.control_word.ensures, c.unpack_held-status.ensures.status)
