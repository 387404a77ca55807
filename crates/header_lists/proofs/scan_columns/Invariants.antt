use Prim.Native.Nat.{◌-◌}
use mathlib.Core.Path.{sym, ap, ◌∙◌}
use native.Mathlib.Omega.{arith}
use Rattle.frames.specs.Frames.{record_of}
use Rattle.frames.proofs.Loops.{Reached, reached_none, reached_more, reached_refused, reached_counted}
use Rattle.rows.specs.Words.{column_width, column_words}
use Rattle.records.specs.Records.{column}
use Rattle.header_lists.proofs.LaidLaws.{Laid, laid_none, laid_more}
use Rattle.header_lists.proofs.KeptLaws.{kept_rows, kept_refused}
use borrow.Author.Rules.{rules}
use Rattle.header_lists.proofs.scan_columns.Given as goal

abbrev pub invariant-loop-i : goal.invariant-loop-i
invariant-loop-i l = (m : Reached l.list (λ _. record_of l.strict (column l.fields)) l.count l.s l.initial.at l.i l.at) × Laid column_width column_words m.done l.initial.rows l.rows
