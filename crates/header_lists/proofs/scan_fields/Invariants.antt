use Prim.Native.Nat.{◌-◌, ◌<◌}
use mathlib.Core.Path.{refl, sym, ap, ◌∙◌}
use mathlib.Core.List.{[], ◌∷◌}
use native.Mathlib.Omega.{arith}
use Rattle.frames.specs.Frames.{record_of}
use Rattle.frames.proofs.Loops.{record_found, Reached, reached_none, reached_more, reached_refused, reached_counted}
use Rattle.rows.proofs.TableLaws.{Holds, holds_none, holds_set}
use Rattle.rows.specs.Words.{field_width, field_words}
use Rattle.rows.specs.declared.FieldRow.{FieldRow}
use Rattle.records.specs.Records.{field}
use Rattle.records.proofs.Bounds.{field_parent}
use Rattle.header_lists.proofs.LaidLaws.{Laid, laid_none, laid_more}
use Rattle.header_lists.proofs.KeptLaws.{kept_word, kept_rows, kept_refused}
use borrow.Author.Rules.{rules}
use Rattle.header_lists.proofs.scan_fields.Given as goal

abbrev pub invariant-loop-i : goal.invariant-loop-i
invariant-loop-i l = (m : Reached l.list (λ _. record_of l.strict (field l.count)) l.count l.s l.initial.at l.i l.at)
    × Holds (λ _ (r : FieldRow). r.head.parent.0 ∷ []) m.done l.initial.parents l.parents
    × Holds (λ _ (r : FieldRow). r.head.flags ∷ []) m.done l.initial.flags l.flags
    × Laid field_width (field_words 0) m.done l.initial.rows l.rows
