use Rattle.capacity_masks.specs.View.{setup_of}
use Rattle.capacity_masks.proofs.Words.{alloc_words}
use Rattle.capacity_masks.proofs.alloc_after.Goals as goal

pub returns : goal.returns
returns c =
    let word = c.before in
    let status = word.before in
    let f = status.before in
    alloc_words (setup_of f.args.setup) _ _ _ _ _ _ _ f.held_fields-f.ensures status.alloc_status-status.ensures word.effect_of-effect.ensures word.alloc_word.ensures
    (cc) (cc) c.flushes.ensures
