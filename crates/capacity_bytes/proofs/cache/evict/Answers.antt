use mathlib.Core.Path.{refl}
use Rattle.std.proofs.lemmas.Result.{err_from_is_err_and}
use Rattle.capacity_model.specs.Calls.{evict}
use Rattle.capacity.proofs.Checks.{passes}
use Rattle.capacity.proofs.Calls.{evict_performed}
use Rattle.capacity_bytes.proofs.Calls.{answered, read_bytes, unit_bytes}
use Rattle.capacity_bytes.proofs.cache.evict.Goals as goal

pub evicting-requires : goal.evicting-requires
evicting-requires c = (passes _ c.in_ok-held.ensures.passed).ranges

pub returns-in_err-evicting : goal.returns-in_err-evicting
returns-in_err-evicting c =
    let h = c.in_ok-held.ensures in
    let p = err_from_is_err_and c.from_residual-in_err-evicting.result c.from_residual-in_err-evicting.ensures.1 in
    rw (p.1, p.2) (answered h (evict _) tt _ _ (c.in_err-evicting.ensures _ _ _ _ h.passed) _ (read_bytes h) _ _ refl refl)

pub returns : goal.returns
returns c =
    let h = c.in_ok-held.ensures in
    let v = c.evict.ensures _ _ _ h.owners_held h.counters_held h.events_held in
    answered h (evict _) tt _ _ (evict_performed _ _ (c.in_ok-evicting.ensures _ _ _ _ h.passed) _ _ refl refl) _ (unit_bytes h _ _ _ _ v.1 v.0) _ _ refl refl
