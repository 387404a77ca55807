-- `column_type::width_of` meets its contract: the table is that of specs/. Assumes nothing.
use Prim.Native.Nat.{ℕ, ◌-◌}
use mathlib.Core.Path.{refl, sym, ◌∙◌}
use native.Mathlib.Omega.{arith}
use Rattle.column_type.specs.Types.{width_of, widths}
use lib.ListN.{get_or}
use lib.Dec.{ltb}
use borrow.Author.Tests.{ltb-true}
use Rattle.column_type.proofs.Laws.{known_range, of_known}
use borrow.Author.Rules.{rules}
use Rattle.column_type.proofs.width_of.Goals as goal

pub overflow_sub-i : goal.overflow_sub-i
overflow_sub-i c = let k = known_range c.args.column_type (sym c.is_known.ensures ∙ c.if-is_known.true) in omega arith

pub bounds-i : goal.bounds-i
bounds-i c = let k = known_range c.args.column_type (sym c.is_known.ensures ∙ c.if-is_known.true) in omega arith

pub overflow_cast-result : goal.overflow_cast-result
unfolding widths
overflow_cast-result c = let t = c.args.column_type in
    omega (arith, ltb-true (get_or widths (t - 1) 0) 256 (of_known (λ _ (x : ℕ). ltb x 256) widths refl tt t (sym c.is_known.ensures ∙ c.if-is_known.true)))

pub returns-then-is_known : goal.returns-then-is_known
unfolding width_of widths
returns-then-is_known c = simp (← c.is_known.ensures, c.if-is_known.true)

pub returns : goal.returns
unfolding width_of
returns c = simp (← c.is_known.ensures, c.if-is_known.false)
