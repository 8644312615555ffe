use Rattle.std.proofs.Common.{ℕ, sym, ap, ◌∙◌, replicate}
use Rattle.words.proofs.Table.{zero_bytes}
use Rattle.words.proofs.storage.U8Storage.clear.Goals as goal

pub returns : goal.returns
returns c = λ n long. c.fill.ensures.after (λ y e. e) ∙ ap (λ (m : ℕ). replicate m 0) long ∙ sym (zero_bytes 8 n)
