use mathlib.Core.Path.{sym}
use lib.Seq.{length-take-le}
use Rattle.header.specs.Header.{Header}
use Rattle.header_schema.proofs.SchemaLaws.{header_accepted, header_refuses}
use Rattle.page_list.proofs.SchemaLaws.{fronts, schema_of_lem}
use Rattle.writing.specs.Rows.{page_rows_in}
use Rattle.writing.specs.PageList.{page_list_piece}
use Rattle.stores.proofs.Answers.{header_refused_lem, header_found}
use native.Mathlib.Omega.{arith}
use Rattle.page_list_writer.proofs.write_page_list.Goals as goal

pub slice_bounds-parents-end : goal.slice_bounds-parents-end
slice_bounds-parents-end c = let e = c.args.header.now in (fronts e c.read_schema-schema.ensures (header_accepted e c.read_schema-schema.ensures c.in-Ok.is).2).0

pub slice_bounds-write_beside-end : goal.slice_bounds-write_beside-end
slice_bounds-write_beside-end c = let e = c.args.header.now in sym (length-take-le _ _ (fronts e c.read_schema-schema.ensures (header_accepted e c.read_schema-schema.ensures c.in-Ok.is).2).0)

pub slice_bounds-flags-end : goal.slice_bounds-flags-end
slice_bounds-flags-end c = let e = c.args.header.now in (fronts e c.read_schema-schema.ensures (header_accepted e c.read_schema-schema.ensures c.in-Ok.is).2).1

pub slice_bounds-write_beside-end-in-Ok : goal.slice_bounds-write_beside-end-in-Ok
slice_bounds-write_beside-end-in-Ok c = let e = c.args.header.now in sym (length-take-le _ _ (fronts e c.read_schema-schema.ensures (header_accepted e c.read_schema-schema.ensures c.in-Ok.is).2).1)

pub returns-in-Ok : goal.returns-in-Ok
returns-in-Ok c = let a = c.args in let e = a.header.now in
    let w = (header_accepted e c.read_schema-schema.ensures c.in-Ok.is).2 in
    header_found 3 (λ (h : Header). page_list_piece h a.entries a.file_length (page_rows_in a.pages.now)) a.out.now w (c.write_beside.ensures _ (schema_of_lem e c.read_schema-schema.ensures w (λ j. omega (arith, c.type_inv.header j))))

pub returns-in-Err : goal.returns-in-Err
returns-in-Err c = let a = c.args in let e = a.header.now in
    header_refused_lem 3 (λ (h : Header). page_list_piece h a.entries a.file_length (page_rows_in a.pages.now)) a.out.now (header_refuses e c.read_schema-schema.ensures c.in-Err.is)
