use mathlib.Core.Path.{refl}
use native.Mathlib.Omega.{arith}
use Rattle.std.proofs.lemmas.Result.{err_from_is_err_and}
use Rattle.access.specs.Pairs.{word_at}
use Rattle.access.proofs.Pairs.{known_lt}
use Rattle.capacity_model.specs.Calls.{fill}
use Rattle.capacity.proofs.Checks.{passes, counters_ok}
use Rattle.capacity.proofs.Calls.{fill_performed, fill_kept}
use Rattle.capacity_bytes.proofs.Calls.{answered, read_bytes, unit_bytes}
use Rattle.capacity_bytes.proofs.cache.fill.Goals as goal

pub pair_at-requires : goal.pair_at-requires
pair_at-requires c = (passes _ c.in_ok-held.ensures.passed).ranges

pub filling-requires : goal.filling-requires
filling-requires c = (passes _ c.in_ok-held.ensures.passed).ranges

pub returns-in_err-allowed : goal.returns-in_err-allowed
unfolding word_at
returns-in_err-allowed c =
    let h = c.in_ok-held.ensures in
    let p = err_from_is_err_and c.from_residual-in_err-allowed.result c.from_residual-in_err-allowed.ensures.1 in
    rw (p.1, p.2)
    (answered h (fill _ _ _ _) tt _ _ (c.in_err-allowed.ensures _ _ _ _ c.args.at h.passed (λ e. rw (c.word-mask.ensures, c.pair_at.ensures e))).answers _ (read_bytes h) _ _ refl refl)

pub fill-requires : goal.fill-requires
unfolding word_at
fill-requires c =
    let a = c.args in
    let h = c.in_ok-held.ensures in
    let p = passes _ h.passed in
    let n = (c.in_ok-allowed.ensures _ _ _ _ a.at h.passed (λ e. rw (c.word-mask.ensures, c.pair_at.ensures e))).named in
    let r = p.ranges in (
      record {
        rcid_low = omega (arith, n.rcid_in, r.nr_high);
        mcid_low = omega (arith, n.mcid_in, r.nm_high);
        at_low = omega (arith, c.known_at-known.ensures, known_lt c.in_ok-held.held.setup.na a.at r.na_low, r.na_high);
      },
      counters_ok _ p,
    )

pub returns-then-allowed : goal.returns-then-allowed
unfolding word_at
returns-then-allowed c =
    let h = c.in_ok-held.ensures in
    let v = c.fill.ensures _ _ _ h.owners_held h.counters_held h.events_held in
    let f = c.in_ok-allowed.ensures _ _ _ _ c.args.at h.passed (λ e. rw (c.word-mask.ensures, c.pair_at.ensures e)) in
    answered h (fill _ _ _ _) tt _ _ (fill_performed _ _ _ _ _ _ f c.if-allowed.true _ _ _ c.known_at-known.ensures refl refl) _ (unit_bytes h _ _ _ _ v.1 v.0) _ _ refl refl

pub returns-else-allowed : goal.returns-else-allowed
unfolding word_at
returns-else-allowed c =
    let h = c.in_ok-held.ensures in
    let f = c.in_ok-allowed.ensures _ _ _ _ c.args.at h.passed (λ e. rw (c.word-mask.ensures, c.pair_at.ensures e)) in
    answered h (fill _ _ _ _) tt _ _ (fill_kept _ _ _ _ _ _ f c.if-allowed.false) _ (read_bytes h) _ _ refl refl
