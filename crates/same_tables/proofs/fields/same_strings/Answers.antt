-- `same_strings` meets its contract: each test decides, or the next does.
use Rattle.same_tables.specs.Same.{same_strings}
use Rattle.same_tables.proofs.fields.same_strings.Goals as goal

pub returns-then-same_texts-3 : goal.returns-then-same_texts-3
unfolding same_strings
returns-then-same_texts-3 c = rw (← c.same_texts.ensures, c.if-same_texts.true, ← c.same_texts-then-same_texts.ensures, c.if-same_texts-2.true, ← c.same_texts-then-same_texts-2.ensures, c.if-same_texts-3.true) c.same_texts-then-same_texts-3.ensures

pub returns-else-same_texts-3 : goal.returns-else-same_texts-3
unfolding same_strings
returns-else-same_texts-3 c = rw (← c.same_texts.ensures, c.if-same_texts.true, ← c.same_texts-then-same_texts.ensures, c.if-same_texts-2.true, ← c.same_texts-then-same_texts-2.ensures, c.if-same_texts-3.false)

pub returns-else-same_texts-2 : goal.returns-else-same_texts-2
unfolding same_strings
returns-else-same_texts-2 c = rw (← c.same_texts.ensures, c.if-same_texts.true, ← c.same_texts-then-same_texts.ensures, c.if-same_texts-2.false)

pub returns-else-same_texts : goal.returns-else-same_texts
unfolding same_strings
returns-else-same_texts c = rw (← c.same_texts.ensures, c.if-same_texts.false)
