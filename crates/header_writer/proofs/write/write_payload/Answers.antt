-- `header_writer::write::write_payload` meets its contract. Assumes nothing.
use lib.ListN.{length}
use Rattle.rows.specs.Words.{field_width, column_width}
use Rattle.rows.specs.Tables.{field_row, column_row}
use Rattle.header.specs.Header.{flags_of}
use Rattle.writing.specs.Rows.{all_rows}
use Rattle.writing.specs.Header.{payload_piece, texts_piece, lists_piece}
use Rattle.stores.proofs.Storing.{stored_none, stored_then}
use borrow.Author.Rules.{rules}
use Rattle.header_writer.proofs.write.write_payload.Goals as goal

pub returns : goal.returns
unfolding payload_piece texts_piece lists_piece
returns c = let a = c.args in
    let fields = all_rows field_row field_width a.fields.now in
    let columns = all_rows column_row column_width a.columns.now in
    let texts = stored_then c.store_8-first.ensures (stored_then c.write_text-second.ensures (stored_then c.write_text-third.ensures (stored_none _ _))) in
    let last = stored_then (c.write_alias_list.ensures (flags_of fields) (length columns)) (stored_none _ _) in
    let lists = stored_then c.write_field_list-fourth.ensures (stored_then (c.write_column_list-fifth.ensures (length fields)) last) in
    stored_then texts (stored_then lists (stored_none _ _))
