use mathlib.Core.Path.{refl}
use Rattle.std.proofs.lemmas.Result.{err_from_is_err_and}
use Rattle.bandwidth.proofs.Calls.{call_failed, request_unknown, request_done, known_rcid}
use Rattle.bandwidth.proofs.Record.request_by.Goals as goal

pub returns-in_err-totals : goal.returns-in_err-totals
returns-in_err-totals c d k =
    let p = err_from_is_err_and c.from_residual.result c.from_residual.ensures.1 in
    rw (p.1, p.2) (call_failed _ d k.no_reset _ c.in_err-totals.ensures)

pub returns-then-setup-rcid : goal.returns-then-setup-rcid
returns-then-setup-rcid c d k = request_unknown c.in_ok-totals.ensures k c.if-setup-rcid.true c.args.unknown refl

pub serve-requires : goal.serve-requires
serve-requires c = (c.in_ok-totals.ensures, let a = c.args in known_rcid a.self.now.setup.nr a.self.now.setup.nm a.rcid a.mcid c.if-setup-rcid.false)

pub returns : goal.returns
returns c d k = request_done c.in_ok-totals.ensures k c.if-setup-rcid.false _ c.serve.ensures
