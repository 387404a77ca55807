-- All that a call leaves that writes an envelope: its answer, its result and the lent bytes.
use Rattle.std.specs.Prelude.{ℕ, List, ◌≡◌, length}
use Rattle.header.specs.Beside.{Beside}
use Rattle.records.specs.declared.HeaderTexts.{HeaderTexts}
use Rattle.writing.specs.Piece.{Piece}
use Rattle.writing.specs.Answers.{reported, left}
use Rattle.answers.specs.Handed.{given, Tells}

-- name and description, each by where it stands in the lent strings and how many bytes it has
abbrev pub texts_at : ℕ → ℕ → ℕ → ℕ → HeaderTexts
texts_at namePlace nameLength descriptionPlace descriptionLength =
    record { name = record { place = namePlace; len = nameLength }; description = record { place = descriptionPlace; len = descriptionLength } }

-- envelope number k: how many bytes were written
pub record WriteCall (k : ℕ) (x : Beside Piece) (out₀ out w₀ w : List ℕ) (r : ℕ) : Type 0 where
  pub hands_over : Tells 1 (reported k (length out₀) x) w₀ w r
  pub bytes_are : out ≡ given 1 w₀ (left out₀ x) out₀
