use Rattle.page_list.proofs.SchemaLaws.{schema_long, header_refused_lem, fronts}
use mathlib.Core.Path.{sym}
use native.Mathlib.Omega.{arith}
use lib.Seq.{length-take-le}
use Rattle.header_schema.proofs.SchemaLaws.{header_accepted, header_refuses}
use Rattle.page_list.proofs.AnswerLaws.{beside_refused}
use Rattle.page_list.proofs.BesideLaws.{refused_beside, read_beside_lem}
use borrow.Author.Rules.{rules}
use Rattle.page_list.proofs.read_page_list.Goals as goal

pub slice_bounds-parents-end : goal.slice_bounds-parents-end
slice_bounds-parents-end c = (fronts c.args.header.now c.read_schema-schema.ensures (header_accepted c.args.header.now c.read_schema-schema.ensures c.in-Ok.is).2).0

pub slice_bounds-judge-end : goal.slice_bounds-judge-end
slice_bounds-judge-end c = sym (length-take-le _ _ (fronts c.args.header.now c.read_schema-schema.ensures (header_accepted c.args.header.now c.read_schema-schema.ensures c.in-Ok.is).2).0)

pub slice_bounds-flags-end : goal.slice_bounds-flags-end
slice_bounds-flags-end c = (fronts c.args.header.now c.read_schema-schema.ensures (header_accepted c.args.header.now c.read_schema-schema.ensures c.in-Ok.is).2).1

pub slice_bounds-judge-end-in-Ok : goal.slice_bounds-judge-end-in-Ok
slice_bounds-judge-end-in-Ok c = sym (length-take-le _ _ (fronts c.args.header.now c.read_schema-schema.ensures (header_accepted c.args.header.now c.read_schema-schema.ensures c.in-Ok.is).2).1)

pub slice_bounds-write_pages-end : goal.slice_bounds-write_pages-end
slice_bounds-write_pages-end c = sym (schema_long c.args.header.now c.read_schema-schema.ensures (header_accepted c.args.header.now c.read_schema-schema.ensures c.in-Ok.is).2).2

pub write_pages-requires : goal.write_pages-requires
write_pages-requires c = let b = read_beside_lem c.args.header.now c.args.page_list.now c.args.entries c.args.file_length c.read_schema-schema.ensures c.in-Ok.is (λ j. omega (arith, c.type_inv.header j)) _ c.judge.ensures c.in-Ok-judge.is in
    let s = b.stands in
    (s.stood, rw s.rows_are s.count)

pub returns-in-Ok-judge : goal.returns-in-Ok-judge
returns-in-Ok-judge c = let b = read_beside_lem c.args.header.now c.args.page_list.now c.args.entries c.args.file_length c.read_schema-schema.ensures c.in-Ok.is (λ j. omega (arith, c.type_inv.header j)) _ c.judge.ensures c.in-Ok-judge.is in
    rw (b.was, ← b.stands.rows_are) c.write_pages.ensures

pub returns-in-Err-judge : goal.returns-in-Err-judge
returns-in-Err-judge c = let b = refused_beside c.args.header.now c.args.page_list.now c.args.entries c.args.file_length c.read_schema-schema.ensures c.in-Ok.is (λ j. omega (arith, c.type_inv.header j)) _ c.judge.ensures c.in-Err-judge.is in
    rw b.number (beside_refused c.args.pages.now b.was)

pub returns-in-Err : goal.returns-in-Err
returns-in-Err c = let e = c.args.header.now in
    beside_refused c.args.pages.now (header_refused_lem e c.args.page_list.now c.args.entries c.args.file_length (header_refuses e c.read_schema-schema.ensures c.in-Err.is))
