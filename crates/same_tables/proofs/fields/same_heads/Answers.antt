-- `same_heads` meets its contract: the tests stand in the order of the numbers.
use borrow.Author.Tests.{eq-eqb, ne_eqb}
use Rattle.same_tables.specs.Same.{same_numbers}
use Rattle.same_tables.proofs.fields.same_heads.Goals as goal

pub returns-then-a-b : goal.returns-then-a-b
unfolding same_numbers
returns-then-a-b c = simp (ne_eqb _ _ c.if-a-b.true)

pub returns-then-a-b-2 : goal.returns-then-a-b-2
unfolding same_numbers
returns-then-a-b-2 c = simp (eq-eqb _ _ c.if-a-b.false, ne_eqb _ _ c.if-a-b-2.true)

pub returns-then-parent-other : goal.returns-then-parent-other
unfolding same_numbers
returns-then-parent-other c = simp (eq-eqb _ _ c.if-a-b.false, eq-eqb _ _ c.if-a-b-2.false, ne_eqb _ _ c.if-parent-other.true)

pub returns-then-a-b-3 : goal.returns-then-a-b-3
unfolding same_numbers
returns-then-a-b-3 c = simp (eq-eqb _ _ c.if-a-b.false, eq-eqb _ _ c.if-a-b-2.false, eq-eqb _ _ c.if-parent-other.false, ne_eqb _ _ c.if-a-b-3.true)

pub returns-then-a-b-4 : goal.returns-then-a-b-4
unfolding same_numbers
returns-then-a-b-4 c = simp (eq-eqb _ _ c.if-a-b.false, eq-eqb _ _ c.if-a-b-2.false, eq-eqb _ _ c.if-parent-other.false, eq-eqb _ _ c.if-a-b-3.false, ne_eqb _ _ c.if-a-b-4.true)

pub returns-then-a-b-5 : goal.returns-then-a-b-5
unfolding same_numbers
returns-then-a-b-5 c = simp (eq-eqb _ _ c.if-a-b.false, eq-eqb _ _ c.if-a-b-2.false, eq-eqb _ _ c.if-parent-other.false, eq-eqb _ _ c.if-a-b-3.false, eq-eqb _ _ c.if-a-b-4.false, ne_eqb _ _ c.if-a-b-5.true)

pub returns : goal.returns
unfolding same_numbers
returns c = simp (eq-eqb _ _ c.if-a-b.false, eq-eqb _ _ c.if-a-b-2.false, eq-eqb _ _ c.if-parent-other.false, eq-eqb _ _ c.if-a-b-3.false, eq-eqb _ _ c.if-a-b-4.false, eq-eqb _ _ c.if-a-b-5.false)
