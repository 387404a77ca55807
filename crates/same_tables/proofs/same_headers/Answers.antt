-- `same_headers` meets its contract: columns, aliases, then the answers.
use Rattle.same_tables.proofs.same_headers.Goals as goal

pub returns-then-same_words-2 : goal.returns-then-same_words-2
returns-then-same_words-2 c = rw (← c.same_words.ensures, c.if-same_words.true, ← c.same_words-then-same_words.ensures, c.if-same_words-2.true) c.same_answers.ensures

pub returns-else-same_words-2 : goal.returns-else-same_words-2
returns-else-same_words-2 c = rw (← c.same_words.ensures, c.if-same_words.true, ← c.same_words-then-same_words.ensures, c.if-same_words-2.false)

pub returns-else-same_words : goal.returns-else-same_words
returns-else-same_words c = rw (← c.same_words.ensures, c.if-same_words.false)
