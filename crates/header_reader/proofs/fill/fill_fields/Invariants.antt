use Prim.Native.Nat.{◌+◌, ◌*◌, ◌-◌, ◌≤◌}
use mathlib.Core.Path.{◌≡◌, refl, ap, ◌∙◌}
use native.Mathlib.Omega.{arith}
use lib.ListN.{length, get_or}
use Rattle.numbers.specs.Rows.{put}
use Rattle.rows.specs.Words.{field_width, field_words}
use Rattle.rows.specs.Tables.{field_row, first_rows}
use Rattle.rows.specs.declared.FieldRow.{FieldRow}
use Rattle.rows.proofs.TableLaws.{Holds, holds_none}
use Rattle.header_reader.proofs.FillLaws.{first_more}
use borrow.Author.Rules.{rules}
use Rattle.header_reader.proofs.fill.fill_fields.Given as goal

abbrev pub invariant-loop-i : goal.invariant-loop-i
invariant-loop-i l = Holds (λ k. field_words (get_or l.marks k 0)) (first_rows field_row l.field_rows l.i) l.initial.table l.table × (l.i ≤ l.n)
