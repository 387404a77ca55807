use Rattle.rows.specs.Tables.{field_row}
use Rattle.writing.specs.Header.{field_item}
use Rattle.verdicts.proofs.FirstRefused.{refused_first}
use borrow.Author.Rules.{rules}
use Rattle.field_check.proofs.number.fields_number.Goals as goal

pub returns : goal.returns
returns c = refused_first (field_item c.args.strings.now c.args.count) field_row c.args.fields.now c.first_of_rows.ensures (λ i r less gives. search rules)
