-- Demand 3 for the call that lists fields: the listing stays. Appended fields, each its own parent, have their lines after it.
use Rattle.std.specs.Prelude.{ℕ, ◌≤◌, List, [], ◌∷◌, ◌++◌, Bool, false, true, not, ◌≡◌, length, take, eqb}
use Rattle.numbers.specs.Choice.{pick, both}
use Rattle.numbers.specs.Rows.{flat_by}
use Rattle.column_type.specs.Types.{known}
use Rattle.envelope.specs.Envelope.{ceiling}
use Rattle.rows.specs.declared.ColumnRow.{ColumnRow}
use Rattle.listing.specs.Lines.{line}
use Rattle.listing.specs.Answers.{fitted, placed, Answered}
use Rattle.listing.specs.Answer.{ListAnswer}
use Rattle.tree.specs.Bytes.{Bytes}
use Rattle.tree.specs.Shape.{Framed}
use Rattle.tree.specs.HeaderTree.{FieldContent, HeaderTree, render_header}
use Rattle.forward.specs.HeaderForward.{ChosenHeader, TheHeader}
use Rattle.forward.specs.HeaderAppend.{appended, field_count, Appendix}
use Rattle.std.specs.Prelude.{Ok}

-- Of these columns one is of unknown type and hangs on field k. For an appended field and the appended columns that is what `dark` is: these columns
-- hang on appended fields only, each its own parent, so that none is below another (law `own-dark`, forward/proofs/Appending).
unfoldable pub darkened : List (Framed ColumnRow) → ℕ → Bool
darkened [] k = false
darkened (c ∷ cs) k = pick (both (not (known c.inside.column_type)) (eqb k c.inside.field.0)) true (darkened cs k)

-- the lines of appended fields, from number n on: in the order of their numbers, each at level 0, with " dark" where an appended column says so
abbrev pub appended_lines : ℕ → List (Framed FieldContent) → List (Framed ColumnRow) → List ℕ
appended_lines n fields columns = flat_by (λ k f. line 0 k f.inside.texts.name f.inside.texts.type_name (darkened columns k)) n fields

-- A call lists these bytes: they are in front of what was lent and their number is the answer, or, where they do not fit, the answer is 20 and
-- nothing is written.
pub record ListsBytes (bytes out₀ out : List ℕ) (r : ListAnswer) : Type 0 where
  pub answers : r ≡ fitted (length out₀) bytes
  pub bytes_are : out ≡ placed out₀ bytes

-- For a call that listed these bytes: whatever the extension of its header, if small enough, any call for it lists the same bytes; and whatever is
-- appended to it, any call for that lists the same bytes and then the lines of the appended fields. What such a call is lent is its own.
pub record ListingKept (e bytes : List ℕ) (n : ℕ) : Type 0 where
  pub header : TheHeader e
  -- they are as many as it answered
  pub count : length bytes ≡ n
  pub forward : (new : HeaderTree) → ChosenHeader header.tree new → length (render_header new) ≤ ceiling
      → (out₀ out : List ℕ) (r : ListAnswer) → Answered (render_header new) out₀ out r → ListsBytes bytes out₀ out r
  pub append : (fields : List (Framed FieldContent)) (columns : List (Framed ColumnRow)) → Appendix header.tree fields columns
      → (out₀ out : List ℕ) (r : ListAnswer) → Answered (render_header (appended header.tree fields columns)) out₀ out r
      → ListsBytes (bytes ++ appended_lines (field_count header.tree) fields columns) out₀ out r

-- Demand 3 for the listing: for every call that listed a header, whose bytes are the first n of those that it left.
abbrev pub ListingForward : Type 0
ListingForward = (e out₀ out : List ℕ) (n : ℕ) → Bytes e → Answered e out₀ out (Ok n) → ListingKept e (take n out) n
