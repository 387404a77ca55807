use mathlib.Core.Path.{sym, ◌∙◌}
use Rattle.chain_moves.specs.Moves.{moves_of}
use Rattle.parents.proofs.InsideLaws.{inside_few, inside_is}
use Rattle.chain_moves.proofs.total_moves.Goals as goal

pub sum_of_moves-requires : goal.sum_of_moves-requires
sum_of_moves-requires c = let e = sym c.all_inside.ensures ∙ c.if-all_inside.true in record { n_le_most_fields = inside_few _ _ e; inside = inside_is _ _ e }

pub returns-then-all_inside : goal.returns-then-all_inside
unfolding moves_of
returns-then-all_inside c = let e = sym c.all_inside.ensures ∙ c.if-all_inside.true in rw e c.sum_of_moves.ensures

pub returns : goal.returns
unfolding moves_of
returns c = let e = sym c.all_inside.ensures ∙ c.if-all_inside.false in rw e
