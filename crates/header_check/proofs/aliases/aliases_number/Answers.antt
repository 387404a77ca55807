use Rattle.rows.specs.Words.{field_width}
use Rattle.rows.specs.Tables.{field_row, alias_row}
use Rattle.header.specs.Header.{flags_of}
use Rattle.writing.specs.Rows.{all_rows}
use Rattle.writing.specs.Header.{alias_item}
use Rattle.verdicts.proofs.FirstRefused.{refused_first}
use borrow.Author.Rules.{rules}
use Rattle.header_check.proofs.aliases.aliases_number.Goals as goal

pub returns : goal.returns
returns c = let a = c.args in refused_first (alias_item (flags_of (all_rows field_row field_width a.fields.now)) a.columns) alias_row a.aliases.now c.first_of_rows.ensures (λ i r less gives. search rules)
