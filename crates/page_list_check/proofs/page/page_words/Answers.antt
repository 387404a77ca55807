use mathlib.Core.Path.{refl}
use Rattle.page_list_check.proofs.page.page_words.Goals as goal

pub returns : goal.returns
returns c = rw (c.word.ensures, c.word-2.ensures, c.word-3.ensures, c.word-4.ensures, c.word-5.ensures) refl
