use Rattle.rows.specs.Tables.{link_row}
use Rattle.writing.specs.Footer.{link_item}
use Rattle.verdicts.proofs.FirstRefused.{refused_first}
use borrow.Author.Rules.{rules}
use Rattle.footer_check.proofs.items.links_number.Goals as goal

pub returns : goal.returns
returns c = refused_first (link_item c.args.file) link_row c.args.metadata.now c.first_of_rows.ensures (λ i r less gives. search rules)
