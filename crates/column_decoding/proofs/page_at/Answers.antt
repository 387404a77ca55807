-- `column_decoding::page_at` meets its contract, word by word. Assumes nothing.
use Rattle.column_decoding.proofs.page_at.Goals as goal

pub returns : goal.returns
returns c = rw (← c.word-checksum.ensures, ← c.word.ensures, ← c.word-2.ensures, ← c.word-3.ensures)
