use Prim.Native.Nat.{◌-◌, ◌*◌, ◌%◌, ◌^◌, ◌≤◌}
use mathlib.Core.Path.{◌≡◌, sym, ap, subst, ◌∙◌}
use mathlib.Core.Bool.{true}
use native.Mathlib.Omega.{arith}
use lib.ListN.{length, take, drop, length-drop}
use Rattle.numbers.specs.Rows.{flat, over}
use Rattle.numbers.proofs.Parts.{rest_of}
use Rattle.wire.specs.Reading.{counted, accepted, rows_of}
use Rattle.rows.specs.Words.{page_width, page_words}
use Rattle.rows.specs.Tables.{column_row}
use Rattle.rows.specs.declared.ColumnRow.{ColumnRow}
use Rattle.pages.specs.Pages.{pages}
use Rattle.page_list.proofs.FillLaws.{Laid, laid_none, laid_room, laid_count, laid_more, laid_refused, laid_all}
use borrow.Author.Rules.{rules}
use Rattle.page_list.proofs.fill.fill_columns.Given as goal

abbrev pub invariant-loop-i : goal.invariant-loop-i
invariant-loop-i l = Laid l.strict l.file l.columns l.list l.count l.s l.initial.at l.i l.at l.total l.initial.table l.table
