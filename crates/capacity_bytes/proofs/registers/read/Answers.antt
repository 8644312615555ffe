use mathlib.Core.Path.{refl}
use Rattle.capacity_model.specs.Calls.{read}
use Rattle.capacity.proofs.Checks.{passes}
use Rattle.capacity_bytes.proofs.Calls.{answered, read_bytes, reading_number}
use Rattle.capacity_bytes.proofs.registers.read.Goals as goal

pub reading-requires : goal.reading-requires
reading-requires c = (passes _ c.in_ok-held.ensures.passed).ranges

pub returns : goal.returns
returns c =
    let h = c.in_ok-held.ensures in
    answered h (read _ _) tt _ _ (c.reading.ensures _ _ _ _ h.passed) _ (read_bytes h) _ _ (reading_number c.reading.result) refl
