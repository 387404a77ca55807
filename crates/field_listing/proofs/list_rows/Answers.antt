use Prim.Native.Nat.{ℕ}
use mathlib.Core.Path.{ap, ◌∙◌}
use mathlib.Core.List.{List}
use native.Mathlib.Omega.{arith}
use lib.ListN.{length, length-replicate}
use Rattle.numbers.specs.Rows.{flat}
use Rattle.rows.specs.Tables.{field_row}
use Rattle.listing.specs.Order.{Entry}
use Rattle.listing.specs.Lines.{entry_line, marked}
use Rattle.listing.specs.Answers.{fitted, placed}
use Rattle.field_listing.proofs.Entries.{count_few, words_there, words_long, entries_are}
use Rattle.field_listing.proofs.list_rows.Goals as goal

pub overflow_mul-words : goal.overflow_mul-words
overflow_mul-words c = omega (arith, count_few _ _ (length-replicate {A = ℕ} 1024 0) c.order_fields-count.ensures)

pub slice_bounds-entries-end : goal.slice_bounds-entries-end
slice_bounds-entries-end c = words_there _ _ (length-replicate {A = ℕ} 1024 0) c.order_fields-count.ensures

pub slice_bounds-write_lines-end : goal.slice_bounds-write_lines-end
slice_bounds-write_lines-end c = words_long _ _ (length-replicate {A = ℕ} 1024 0) c.order_fields-count.ensures

pub returns : goal.returns
returns c = let lines = entry_line c.args.envelope.now (field_row c.args.fields.now) (marked c.args.marks.now) in
    let same = entries_are _ _ (length-replicate {A = ℕ} 1024 0) c.order_fields-count.ensures in
    record { answers = c.write_lines.ensures.answers ∙ ap (λ (l : List Entry). fitted (length c.args.out.now) (flat lines l)) same; leaves = c.write_lines.ensures.leaves ∙ ap (λ (l : List Entry). placed c.args.out.now (flat lines l)) same }
