use Rattle.writing.specs.PageList.{page_word_piece, page_piece}
use Rattle.stores.proofs.Storing.{stored_none, stored_then, stored_as_lem}
use Rattle.page_list_writer.proofs.Bytes.{word_bytes}
use Rattle.page_list_writer.proofs.write.write_page.Goals as goal

pub returns : goal.returns
unfolding page_piece page_word_piece
returns c = λ file bits. stored_then (stored_as_lem (word_bytes c.args.page.elements c.args.page.bit) c.store_4-size_place.ensures) (stored_then c.store_4-offset_place.ensures (stored_then c.store_8.ensures (stored_none _ _)))
