use mathlib.Core.Path.{sym}
use native.Mathlib.Omega.{arith}
use lib.Seq.{length-take-le}
use Rattle.header_schema.proofs.SchemaLaws.{header_accepted, header_refuses}
use Rattle.page_list.proofs.SchemaLaws.{header_refused_lem, fronts, schema_long}
use Rattle.page_list.proofs.BesideLaws.{refused_beside, read_beside_lem}
use Rattle.page_figures.proofs.FigureLaws.{figures_refused}
use borrow.Author.Rules.{rules}
use Rattle.page_figures.proofs.page_figures.Goals as goal

pub slice_bounds-parents-end : goal.slice_bounds-parents-end
slice_bounds-parents-end c = (fronts c.args.header.now c.read_schema-schema.ensures (header_accepted c.args.header.now c.read_schema-schema.ensures c.in-Ok.is).2).0

pub slice_bounds-judge-end : goal.slice_bounds-judge-end
slice_bounds-judge-end c = sym (length-take-le _ _ (fronts c.args.header.now c.read_schema-schema.ensures (header_accepted c.args.header.now c.read_schema-schema.ensures c.in-Ok.is).2).0)

pub slice_bounds-flags-end : goal.slice_bounds-flags-end
slice_bounds-flags-end c = (fronts c.args.header.now c.read_schema-schema.ensures (header_accepted c.args.header.now c.read_schema-schema.ensures c.in-Ok.is).2).1

pub slice_bounds-judge-end-in-Ok : goal.slice_bounds-judge-end-in-Ok
slice_bounds-judge-end-in-Ok c = sym (length-take-le _ _ (fronts c.args.header.now c.read_schema-schema.ensures (header_accepted c.args.header.now c.read_schema-schema.ensures c.in-Ok.is).2).1)

pub slice_bounds-write_figures-end : goal.slice_bounds-write_figures-end
slice_bounds-write_figures-end c = sym (schema_long c.args.header.now c.read_schema-schema.ensures (header_accepted c.args.header.now c.read_schema-schema.ensures c.in-Ok.is).2).2

pub write_figures-requires : goal.write_figures-requires
write_figures-requires c = (read_beside_lem c.args.header.now c.args.page_list.now c.args.entries c.args.file_length c.read_schema-schema.ensures c.in-Ok.is (λ j. omega (arith, c.type_inv.header j)) _ c.judge.ensures c.in-Ok-judge.is).stands.stood

pub returns-in-Ok-judge : goal.returns-in-Ok-judge
returns-in-Ok-judge c = let b = read_beside_lem c.args.header.now c.args.page_list.now c.args.entries c.args.file_length c.read_schema-schema.ensures c.in-Ok.is (λ j. omega (arith, c.type_inv.header j)) _ c.judge.ensures c.in-Ok-judge.is in
    rw (b.was, ← b.stands.rows_are) c.write_figures.ensures

pub returns-in-Err-judge : goal.returns-in-Err-judge
returns-in-Err-judge c = let b = refused_beside c.args.header.now c.args.page_list.now c.args.entries c.args.file_length c.read_schema-schema.ensures c.in-Ok.is (λ j. omega (arith, c.type_inv.header j)) _ c.judge.ensures c.in-Err-judge.is in
    rw b.number (figures_refused c.args.figures.now b.was)

pub returns-in-Err : goal.returns-in-Err
returns-in-Err c = let e = c.args.header.now in
    figures_refused c.args.figures.now (header_refused_lem e c.args.page_list.now c.args.entries c.args.file_length (header_refuses e c.read_schema-schema.ensures c.in-Err.is))
