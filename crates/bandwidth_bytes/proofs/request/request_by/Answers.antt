use Rattle.bandwidth_bytes.proofs.Calls.{request_unnamed}
use Rattle.bandwidth_bytes.proofs.request.request_by.Goals as goal

pub returns-then-setup-rcid : goal.returns-then-setup-rcid
returns-then-setup-rcid c d k = request_unnamed c.requires _ _ _ _ _ c.args.unknown k c.if-setup-rcid.true

pub serve-grant-requires : goal.serve-grant-requires
serve-grant-requires c = (c.requires, c.if-setup-rcid.false)

pub returns : goal.returns
returns c d k = c.serve-grant.ensures d _ k.is
