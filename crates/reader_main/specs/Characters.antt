-- The characters of a string that was read, none where it is refused.
use Rattle.std.specs.Prelude.{ℕ, List, []}
use Rattle.wire.specs.Reading.{Step, found, refused}
use Rattle.rows.specs.declared.Text.{Text}
use Rattle.reader.specs.Text.{text_of}

abbrev pub characters_of : List ℕ → Step Text → List ℕ
characters_of e (found t p) = text_of e t.place t.len
characters_of e (refused f) = []
