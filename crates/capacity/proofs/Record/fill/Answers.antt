use native.Mathlib.Omega.{arith}
use Rattle.access.specs.Pairs.{word_at}
use Rattle.access.proofs.Pairs.{known_lt}
use Rattle.capacity_model.specs.Calls.{fill}
use Rattle.capacity.proofs.Checks.{passes, counters_ok}
use Rattle.capacity.proofs.Calls.{call_failed, fill_performed, fill_kept}
use Rattle.capacity.proofs.Record.fill.Goals as goal
use Rattle.capacity.proofs.Record.fill.Goals.{then-allowed, else-allowed}

pub returns-in-Err : goal.returns-in-Err
returns-in-Err c = rw c.refused.ensures (call_failed _ (fill _ _ _ _) tt _ c.in-Err.ensures)

pub pair_at-requires : goal.pair_at-requires
pair_at-requires c = (passes _ c.in_default.ensures).ranges

pub filling-requires : goal.filling-requires
filling-requires c = (passes _ c.in_default.ensures).ranges

pub fill-requires : goal.fill-requires
unfolding word_at
fill-requires c =
    let a = c.args in
    let p = passes _ c.in_default.ensures in
    let n = (c.in-Ok.ensures _ _ _ _ a.at c.in_default.ensures (λ h. rw (c.word-mask.ensures, c.pair_at.ensures h))).named in
    let r = p.ranges in (
      record {
        rcid_low = omega (arith, n.rcid_in, r.nr_high);
        mcid_low = omega (arith, n.mcid_in, r.nm_high);
        at_low = omega (arith, c.known_at-known.ensures, known_lt a.self.setup.na a.at r.na_low, r.na_high);
      },
      counters_ok _ p,
    )

pub returns-in-Err-filling : goal.returns-in-Err-filling
unfolding word_at
returns-in-Err-filling c =
    rw c.refused-in-Err-filling.ensures
    (c.in-Err-filling.ensures _ _ _ _ c.args.at c.in_default.ensures (λ h. rw (c.word-mask.ensures, c.pair_at.ensures h))).answers

pub returns : goal.returns
unfolding word_at
returns c =
    let f = c.in-Ok.ensures _ _ _ _ c.args.at c.in_default.ensures (λ h. rw (c.word-mask.ensures, c.pair_at.ensures h)) in
    rw c.answered.ensures
    (elim c.if-allowed.branch [
      | then-allowed w ↦ let v = w.fill.ensures in rw (w.counters-is, w.owners-is) (fill_performed _ _ _ _ _ _ f w.if-allowed.true _ _ _ w.known_at-known.ensures v.0 v.1)
      | else-allowed w ↦ rw (w.counters-is, w.owners-is) (fill_kept _ _ _ _ _ _ f w.if-allowed.false)
    ])
