use mathlib.Core.Path.{refl, sym, ◌∙◌}
use Rattle.bandwidth_grants.proofs.Steps.{led}
use Rattle.bandwidth_grants.proofs.holder_of.Goals as goal

pub returns-then-is_holder : goal.returns-then-is_holder
returns-then-is_holder c =
    led _ _ (c.from-word.ensures ∙ c.word.ensures) (sym c.if-is_holder.true ∙ c.is_holder.ensures) refl c.shared_at-other.ensures.is

pub returns-then-is_sharer : goal.returns-then-is_sharer
returns-then-is_sharer c =
    led _ _ (c.from-word.ensures ∙ c.word.ensures) (sym c.if-is_holder.false ∙ c.is_holder.ensures) (sym c.if-is_sharer.true ∙ c.is_sharer.ensures)
    c.shared_at-other.ensures.is

pub returns-else-is_sharer : goal.returns-else-is_sharer
returns-else-is_sharer c =
    led _ _ (c.from-word.ensures ∙ c.word.ensures) (sym c.if-is_holder.false ∙ c.is_holder.ensures) (sym c.if-is_sharer.false ∙ c.is_sharer.ensures)
    c.shared_at-other.ensures.is
