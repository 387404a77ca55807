-- `same_read` meets its contract: the counts, then the strings, then the fields.
use borrow.Author.Tests.{eq-eqb, ne_eqb}
use Rattle.same_tables.specs.Same.{same_read}
use Rattle.same_tables.proofs.same_read.Goals as goal

pub returns-then-t-u : goal.returns-then-t-u
unfolding same_read
returns-then-t-u c = rw (ne_eqb _ _ c.if-t-u.true)

pub returns-then-t-u-2 : goal.returns-then-t-u-2
unfolding same_read
returns-then-t-u-2 c = rw (eq-eqb _ _ c.if-t-u.false, ne_eqb _ _ c.if-t-u-2.true)

pub returns-then-t-u-3 : goal.returns-then-t-u-3
unfolding same_read
returns-then-t-u-3 c = rw (eq-eqb _ _ c.if-t-u.false, eq-eqb _ _ c.if-t-u-2.false, ne_eqb _ _ c.if-t-u-3.true)

pub returns-then-same_texts-2 : goal.returns-then-same_texts-2
unfolding same_read
returns-then-same_texts-2 c = rw (eq-eqb _ _ c.if-t-u.false, eq-eqb _ _ c.if-t-u-2.false, eq-eqb _ _ c.if-t-u-3.false, ← c.same_texts.ensures, c.if-same_texts.true, ← c.same_texts-then-same_texts.ensures, c.if-same_texts-2.true) c.same_fields.ensures

pub returns-else-same_texts-2 : goal.returns-else-same_texts-2
unfolding same_read
returns-else-same_texts-2 c = rw (eq-eqb _ _ c.if-t-u.false, eq-eqb _ _ c.if-t-u-2.false, eq-eqb _ _ c.if-t-u-3.false, ← c.same_texts.ensures, c.if-same_texts.true, ← c.same_texts-then-same_texts.ensures, c.if-same_texts-2.false)

pub returns-else-same_texts : goal.returns-else-same_texts
unfolding same_read
returns-else-same_texts c = rw (eq-eqb _ _ c.if-t-u.false, eq-eqb _ _ c.if-t-u-2.false, eq-eqb _ _ c.if-t-u-3.false, ← c.same_texts.ensures, c.if-same_texts.false)
