use Prim.Native.Nat.{◌-◌}
use mathlib.Core.Path.{sym, ap, ◌∙◌}
use native.Mathlib.Omega.{arith}
use Rattle.frames.specs.Frames.{record_of}
use Rattle.frames.proofs.Loops.{Reached, reached_none, reached_more, reached_refused, reached_counted}
use Rattle.rows.specs.Words.{alias_width, alias_words}
use Rattle.records.specs.Records.{alias}
use Rattle.header_lists.proofs.LaidLaws.{Laid, laid_none, laid_more}
use Rattle.header_lists.proofs.KeptLaws.{kept_rows, kept_refused}
use borrow.Author.Rules.{rules}
use Rattle.header_lists.proofs.scan_aliases.Given as goal

abbrev pub invariant-loop-i : goal.invariant-loop-i
invariant-loop-i l = (m : Reached l.list (λ _. record_of l.strict (alias l.flags l.columns)) l.count l.s l.initial.at l.i l.at) × Laid alias_width alias_words m.done l.initial.rows l.rows
