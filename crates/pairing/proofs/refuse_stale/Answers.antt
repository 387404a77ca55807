use Rattle.header_schema.proofs.SchemaLaws.{header_accepted, header_refuses}
use Rattle.page_list.proofs.AnswerLaws.{beside_refused}
use Rattle.pairing.proofs.PairedLaws.{stale_first, stale_then}
use borrow.Author.Rules.{rules}
use Rattle.pairing.proofs.refuse_stale.Goals as goal

pub returns-in-Ok : goal.returns-in-Ok
returns-in-Ok c = λ table.
    let a = c.args in
    let w = header_accepted a.header.now c.read_schema-schema.ensures c.in-Ok.is in
    rw c.stale_number.ensures (beside_refused table (stale_then a.header.now a.page_list.now w.2))

pub returns-in-Err : goal.returns-in-Err
returns-in-Err c = λ table.
    let a = c.args in
    let w = header_refuses a.header.now c.read_schema-schema.ensures c.in-Err.is in
    beside_refused table (stale_first a.header.now a.page_list.now w)
