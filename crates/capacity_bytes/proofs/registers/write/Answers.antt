use Rattle.std.proofs.Common.{rules}
use Rattle.std.proofs.lemmas.Result.{err_from_is_err_and}
use mathlib.Core.Path.{refl, sym}
use Rattle.words.proofs.Held.{length_held}
use Rattle.capacity_model.specs.Calls.{write}
use Rattle.capacity.proofs.Checks.{passes}
use Rattle.capacity.proofs.Calls.{words_in}
use Rattle.capacity_masks.specs.View.{setup_of}
use Rattle.capacity_bytes.proofs.Calls.{answered, read_bytes, write_bytes}
use Rattle.capacity_bytes.proofs.registers.write.Goals as goal

pub named_pair-p-requires : goal.named_pair-p-requires
named_pair-p-requires c = (passes _ c.in_ok-held.ensures.passed).ranges

pub write_words-requires : goal.write_words-requires
write_words-requires c = (passes _ c.in_ok-held.ensures.passed).ranges

pub returns-in_err-left : goal.returns-in_err-left
returns-in_err-left c =
    let h = c.in_ok-held.ensures in
    let p = err_from_is_err_and c.from_residual-in_err-left.result c.from_residual-in_err-left.ensures.1 in
    let n = words_in _ _ _ _ _ _ _ c.named_pair-p.ensures c.named_mcid-i.ensures c.word.ensures c.word-2.ensures c.word-3.ensures in
    rw (p.1, p.2) (answered h (write _ _ _) tt _ _ (c.in_err-left.ensures _ _ _ _ h.passed n) _ (read_bytes h) _ _ refl refl)

pub store_record-requires : goal.store_record-requires
store_record-requires c = sym (length_held 8 _ _ c.in_ok-held.ensures.record_held)

pub returns : goal.returns
returns c =
    let h = c.in_ok-held.ensures in
    let p = c.named_pair-p.ensures in
    let i = c.named_mcid-i.ensures in
    let x = c.in_ok-left.left in
    let n = words_in _ _ _ _ _ _ _ p i c.word.ensures c.word-2.ensures c.word-3.ensures in
    answered h (write _ _ _) tt _ _ (c.in_ok-left.ensures _ _ _ _ h.passed n) _
    (write_bytes h (setup_of c.in_ok-held.held.setup) x _ _ _ _ _ _ _ _ _ _ _ p i c.named_rcid.ensures (search rules) (search rules)
    c.store_record.ensures c.put.ensures c.put-2.ensures c.put-3.ensures c.flush_if.ensures refl)
    _ _ refl refl
