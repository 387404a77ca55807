use Rattle.writing.specs.Rows.{page_rows_in}
use Rattle.writing.specs.PageList.{page_list_payload_piece}
use Rattle.writing.proofs.ColumnOrder.{columns_long}
use Rattle.stores.proofs.FramedLaws.{listed_lem}
use borrow.Author.Rules.{rules}
use Rattle.page_list_writer.proofs.write.write_payload.Goals as goal

pub returns : goal.returns
unfolding page_list_payload_piece
returns c = λ order file bits. rw (columns_long 0 c.args.n (page_rows_in c.args.pages.now)) (listed_lem _ c.store_list.ensures (λ place before stop after k. search rules))
