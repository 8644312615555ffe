use Rattle.std.proofs.Common.{◌≡◌, ◌+◌, ◌-◌, ◌*◌, ◌^◌, length, refl, ap, arith}
use Rattle.std.proofs.Math.Nat.{lt_of_lt_of_le, mul-le-mul_right}
use Rattle.std.proofs.Math.Pow.{ones_lt, pow_mono}
use Rattle.numbers.specs.Numbers.{words_for}
use Rattle.numbers.proofs.Words.{words_long}
use Rattle.numbers.proofs.Tables.{filled_to, filled_none, filled_all}
use Rattle.mask_tables.proofs.Loops.{next_inside, fill_turn}
use Rattle.mask_tables.proofs.table.fill_masks.Goals as goal

pub loop-i-init : goal.loop-i-init
loop-i-init g c =
    ((omega arith, refl), λ w e. rw (← filled_none c.words_for-n.result (2 ^ c.args.c - 1) w) (c.clear.ensures w (omega (arith, e))))

pub store-requires : goal.store-requires
store-requires g c =
    let n = c.words_for-n in
    let size = g.S.Storage.SIZE in
    let room = mul-le-mul_right size (next_inside n.result c.args.k c.loop-i.i (words_for c.args.c) n.ensures.0 (omega arith)) in
    (omega (arith, n.ensures.1.1, ap length c.all_set-mask.ensures, words_long 16 (2 ^ c.args.c - 1)), omega (arith, room, c.requires.1.1, c.loop-i.invariant.0.1))

pub loop-i-preserved : goal.loop-i-preserved
loop-i-preserved g c =
    let n = c.words_for-n.result in
    let x = 2 ^ c.args.c - 1 in
    let i = c.loop-i.i in (
      (omega arith, omega arith),
      λ w e. rw (← fill_turn n x w i (lt_of_lt_of_le (ones_lt c.args.c) (pow_mono c.requires.1.0)) c.all_set-mask.ensures refl refl)
          (c.store.ensures (filled_to n x w i) (c.loop-i.invariant.1 w e)),
    )

pub returns : goal.returns
returns g c =
    let a = c.args in
    let n = words_for a.c in
    let x = 2 ^ a.c - 1 in
    let done : c.loop-i.i ≡ a.k = omega arith in
    λ m e. rw (← filled_all n x ((a.k + m) * n) a.k m refl)
    (rw (done, c.words_for-n.ensures.0) at (c.loop-i.invariant.1 ((a.k + m) * n) (omega (arith, e))))
