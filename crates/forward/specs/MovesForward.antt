-- Demand 3 for the call that counts moves: the sum stays. Appended fields, each its own parent, have no moves.
use Rattle.std.specs.Prelude.{ℕ, ◌≤◌, List, ◌≡◌, length}
use Rattle.envelope.specs.Envelope.{ceiling}
use Rattle.rows.specs.declared.ColumnRow.{ColumnRow}
use Rattle.header.specs.Tables.{header_of}
use Rattle.moves.specs.Moves.{Answered}
use Rattle.moves.specs.Answer.{MovesAnswer}
use Rattle.tree.specs.Bytes.{Bytes}
use Rattle.tree.specs.Shape.{Framed}
use Rattle.tree.specs.HeaderTree.{FieldContent, HeaderTree, render_header}
use Rattle.forward.specs.HeaderForward.{ChosenHeader, TheHeader}
use Rattle.forward.specs.HeaderAppend.{appended, Appendix}
use Rattle.std.specs.Prelude.{Ok}

-- For an accepted call: whatever the extension of its header, if small enough, and whatever is appended to it, any call for it gives the same sum.
pub record MovesKept (e : List ℕ) (total : ℕ) : Type 0 where
  pub header : TheHeader e
  pub forward : (new : HeaderTree) → ChosenHeader header.tree new → length (render_header new) ≤ ceiling
      → (r : MovesAnswer) → Answered (header_of (render_header new)) r → r ≡ Ok total
  pub append : (fields : List (Framed FieldContent)) (columns : List (Framed ColumnRow)) → Appendix header.tree fields columns
      → (r : MovesAnswer) → Answered (header_of (render_header (appended header.tree fields columns))) r → r ≡ Ok total

-- Demand 3 for the moves: for every call that answered with a sum.
abbrev pub MovesForward : Type 0
MovesForward = (e : List ℕ) (total : ℕ) → Bytes e → Answered (header_of e) (Ok total) → MovesKept e total
