use mathlib.Core.Path.{sym, ap, ◌∙◌}
use Rattle.wire.proofs.Laws.{mapped_refused}
use Rattle.header_payload.specs.Answers.{scan_of}
use Rattle.header_reader.proofs.ReadLaws.{answered_refused, no_room, fits, all_read}
use borrow.Author.Rules.{rules}
use Rattle.header_reader.proofs.fill.answer_scan.Goals as goal
use Rattle.wire.specs.Answers.{as_step}

pub fill_tables-requires : goal.fill_tables-requires
fill_tables-requires c = let a = c.args in
    fits a.envelope.now (sym (ap as_step c.in-Ok.is) ∙ c.requires.step_value) c.requires.scanned a.fields.now a.columns.now a.aliases.now (sym c.if-has_room.true ∙ c.has_room.ensures)

pub shape_of-fields-then-has_room : goal.shape_of-fields-then-has_room
shape_of-fields-then-has_room c = c.fill_tables.auto.fields

pub shape_of-columns-then-has_room : goal.shape_of-columns-then-has_room
shape_of-columns-then-has_room c = c.fill_tables.auto.columns

pub shape_of-aliases-then-has_room : goal.shape_of-aliases-then-has_room
shape_of-aliases-then-has_room c = c.fill_tables.auto.aliases

pub returns-then-has_room : goal.returns-then-has_room
returns-then-has_room c = let a = c.args in
    let z = c.fill_tables.ensures in
    all_read a.envelope.now (sym (ap as_step c.in-Ok.is) ∙ c.requires.step_value) c.requires.scanned a.fields.now a.columns.now a.aliases.now (sym c.if-has_room.true ∙ c.has_room.ensures) z.fields_after z.columns_after z.aliases_after

pub returns-else-has_room : goal.returns-else-has_room
returns-else-has_room c = let a = c.args in
    no_room a.envelope.now (sym (ap as_step c.in-Ok.is) ∙ c.requires.step_value) c.requires.scanned a.fields.now a.columns.now a.aliases.now (sym c.if-has_room.false ∙ c.has_room.ensures)

pub returns-in-Err : goal.returns-in-Err
returns-in-Err c = let a = c.args in
    answered_refused a.fields.now a.columns.now a.aliases.now (mapped_refused scan_of _ (sym (ap as_step c.in-Err.is) ∙ c.requires.step_value))
