use Prim.Native.Nat.{ℕ, ◌*◌}
use mathlib.Core.List.{List}
use mathlib.Core.Path.{◌≡◌, sym, ap, ◌∙◌}
use native.Mathlib.Omega.{arith}
use lib.ListN.{length, take, get_or}
use lib.Seq.{length-take-le}
use Rattle.numbers.specs.Rows.{over}
use Rattle.rows.specs.Words.{column_width, alias_width, field_words}
use Rattle.rows.specs.Tables.{field_row, first_rows, columns_in}
use Rattle.rows.proofs.TableLaws.{flat_same}
use Rattle.parents.specs.Dark.{dark_mark}
use Rattle.header_reader.proofs.FillLaws.{put_front}
use borrow.Author.Rules.{rules}
use Rattle.header_reader.proofs.fill.fill_tables.Goals as goal

pub fill_fields-requires : goal.fill_fields-requires
fill_fields-requires c = let r = c.requires in let f = r.fields_fit in let n = r.few in (omega arith, omega arith)

pub overflow_mul-column_words : goal.overflow_mul-column_words
overflow_mul-column_words c = let r = c.requires in omega (arith, r.columns_there, c.well_formed)

pub slice_bounds-put_words-end : goal.slice_bounds-put_words-end
slice_bounds-put_words-end c = sym (length-take-le _ _ c.requires.columns_there)

pub overflow_mul-alias_words : goal.overflow_mul-alias_words
overflow_mul-alias_words c = let r = c.requires in omega (arith, r.aliases_there, c.well_formed)

pub slice_bounds-put_words-end-2 : goal.slice_bounds-put_words-end-2
slice_bounds-put_words-end-2 c = sym (length-take-le _ _ c.requires.aliases_there)

pub shape_of-fields : goal.shape_of-fields
shape_of-fields c = c.fill_fields.auto.table

pub shape_of-columns : goal.shape_of-columns
shape_of-columns c = c.put_words.auto.table

pub shape_of-aliases : goal.shape_of-aliases
shape_of-aliases c = c.put_words-2.auto.table

pub returns : goal.returns
returns c = let a = c.args in
    let r = c.requires in
    let fit = r.columns_fit in
    let fit2 = r.aliases_fit in
    let same = flat_same (λ i. field_words (get_or c.dark_marks-marks.result i 0)) (λ i. field_words (dark_mark a.parents.now a.lists.fields (columns_in a.column_rows.now a.lists.columns) i))
    (λ i x. ap (λ d. field_words d x) (c.dark_marks-marks.ensures i)) 0 (first_rows field_row a.field_rows.now a.lists.fields) in
    let cut : length (take (column_width * a.lists.columns) a.column_rows.now) ≡ column_width * a.lists.columns = length-take-le _ _ r.columns_there in
    let cut2 : length (take (alias_width * a.lists.aliases) a.alias_rows.now) ≡ alias_width * a.lists.aliases = length-take-le _ _ r.aliases_there in record { fields_after = c.fill_fields.ensures ∙ ap (λ (v : List ℕ). over v a.fields.now) same; columns_after = c.put_words.ensures ∙ put_front a.columns.now (take (column_width * a.lists.columns) a.column_rows.now) (omega arith); aliases_after = c.put_words-2.ensures ∙ put_front a.aliases.now (take (alias_width * a.lists.aliases) a.alias_rows.now) (omega arith) }
