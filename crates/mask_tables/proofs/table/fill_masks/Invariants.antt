use Rattle.std.proofs.Common.{◌≡◌, ℕ, ◌-◌, ◌*◌, ◌^◌, ◌≤◌, length}
use Rattle.numbers.proofs.Tables.{filled_to}
use Rattle.mask_tables.proofs.table.fill_masks.Given as goal

abbrev pub invariant-loop-i : goal.invariant-loop-i
invariant-loop-i g l =
    let s = g.S.Storage in
    ((l.i ≤ l.k) × (length l.masks ≡ length l.initial.masks)) × ((w : ℕ) → length l.initial.masks ≡ w * s.SIZE → s.fill (filled_to l.n (2 ^ l.c - 1) w l.i) l.masks)
