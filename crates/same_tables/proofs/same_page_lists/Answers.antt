-- `same_page_lists` meets its contract: the pages, then their count.
use Rattle.same_tables.proofs.same_page_lists.Goals as goal

pub returns-then-same_words : goal.returns-then-same_words
returns-then-same_words c = rw (← c.same_words.ensures, c.if-same_words.true) c.same_page_counts.ensures

pub returns : goal.returns
returns c = rw (← c.same_words.ensures, c.if-same_words.false)
