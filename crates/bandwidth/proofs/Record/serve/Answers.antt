use native.Mathlib.Omega.{arith}
use Rattle.bandwidth_setup.specs.View.{setup_of}
use Rattle.bandwidth_settings.proofs.Rows.{row_end}
use Rattle.bandwidth.proofs.Calls.{request_fits, serve_row}
use Rattle.bandwidth.proofs.Record.serve.Goals as goal

pub slice_bounds-give-end : goal.slice_bounds-give-end
slice_bounds-give-end c =
    omega (arith, row_end (setup_of c.args.self.now.setup) c.args.active.now c.requires.0.sized.active_long c.row_of-start.ensures)

pub slice_bounds-give-end-2 : goal.slice_bounds-give-end-2
slice_bounds-give-end-2 c =
    omega (arith, row_end (setup_of c.args.self.now.setup) c.args.used.now c.requires.0.sized.used_long c.row_of-start.ensures)

pub give-given-requires : goal.give-given-requires
give-given-requires c =
    request_fits c.requires.0 _ _ c.requires.1 c.known_at-at.ensures c.row_of-start.ensures

pub returns : goal.returns
returns c =
    serve_row c.requires.0 _ _ c.requires.1 c.known_at-at.ensures c.row_of-start.ensures _ _ c.give-given.ensures c.count_bytes.ensures
