use mathlib.Core.Path.{ap, ◌∙◌}
use mathlib.Core.List.{List}
use Prim.Native.Nat.{ℕ}
use Rattle.words.proofs.Parts.{loaded_as, stored_as}
use Rattle.bandwidth_setup.specs.View.{setup_of}
use Rattle.bandwidth_settings.specs.Rows.{write_row}
use Rattle.bandwidth_bytes.proofs.write.write_loaded.Goals as goal

pub returns : goal.returns
returns c =
    let a = c.args in
    let long = c.requires.1.1 in
    record {
      left = c.write_row-done.new.row;
      written = c.write_row-done.ensures ∙ ap (λ (row : List ℕ). write_row (setup_of a.setup) a.reserved a.bw row a.v) (loaded_as a.from a.configured.now c.load_part.ensures long);
      bytes_are = λ h. stored_as a.from a.configured.now c.write_row-done.new.row (c.store_part.ensures _ h) (c.write_row-done.auto.row ∙ c.load_part.auto.words ∙ long);
    }
