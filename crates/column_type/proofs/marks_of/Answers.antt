-- `column_type::marks_of` meets its contract, by the rule of the table. Assumes nothing.
use mathlib.Core.Path.{sym, ◌∙◌}
use native.Mathlib.Omega.{arith}
use Rattle.column_type.proofs.Laws.{known_range, marked, unmarked}
use borrow.Author.Rules.{rules}
use Rattle.column_type.proofs.marks_of.Goals as goal

pub overflow_sub-i : goal.overflow_sub-i
overflow_sub-i c = let k = known_range c.args.column_type (sym c.is_known.ensures ∙ c.if-is_known.true) in
    omega arith

pub bounds-i : goal.bounds-i
bounds-i c = let k = known_range c.args.column_type (sym c.is_known.ensures ∙ c.if-is_known.true) in
    omega arith

pub returns-then-is_known : goal.returns-then-is_known
returns-then-is_known c = marked c.args.column_type (sym c.is_known.ensures ∙ c.if-is_known.true)

pub returns : goal.returns
returns c = unmarked c.args.column_type (sym c.is_known.ensures ∙ c.if-is_known.false)
