use mathlib.Core.Path.{sym, ◌∙◌}
use Rattle.parents.specs.Parents.{chains_of}
use Rattle.parents.proofs.InsideLaws.{inside_few, inside_is}
use Rattle.parents.proofs.endless_chain.Goals as goal

pub lowest_endless-requires : goal.lowest_endless-requires
lowest_endless-requires c = let e = sym c.all_inside.ensures ∙ c.if-all_inside.true in record { n_le_most_fields = (inside_few _ _ e).0; inside = inside_is _ _ e }

pub returns-then-all_inside : goal.returns-then-all_inside
unfolding chains_of
returns-then-all_inside c = let e = sym c.all_inside.ensures ∙ c.if-all_inside.true in rw e c.lowest_endless.ensures

pub returns : goal.returns
unfolding chains_of
returns c = let e = sym c.all_inside.ensures ∙ c.if-all_inside.false in rw e
