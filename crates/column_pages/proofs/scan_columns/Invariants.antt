use Prim.Native.Nat.{◌-◌, ◌%◌, ◌^◌}
use mathlib.Core.Path.{sym, ap, ◌∙◌}
use native.Mathlib.Omega.{arith}
use Rattle.wire.specs.Reading.{mapped}
use Rattle.rows.specs.declared.ColumnRow.{ColumnRow}
use Rattle.pages.specs.Pages.{pages}
use Rattle.pages.specs.Answers.{tally_of}
use Rattle.column_pages.proofs.ScanLaws.{Scanned, scanned_none, scanned_fits, scanned_more, scanned_refused, scanned_all}
use borrow.Author.Rules.{rules}
use Rattle.column_pages.proofs.scan_columns.Given as goal

abbrev pub invariant-loop-i : goal.invariant-loop-i
invariant-loop-i l = Scanned l.strict l.file l.columns l.list l.count l.s l.initial.at l.i l.at l.total l.elements
