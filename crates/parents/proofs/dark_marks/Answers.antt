use mathlib.Core.Path.{sym, ◌∙◌}
use Rattle.rows.specs.Words.{most_fields}
use Rattle.parents.specs.Dark.{dark_mark}
use Rattle.parents.proofs.InsideLaws.{inside_few, inside_is}
use Rattle.parents.proofs.Darkening.{none_marked}
use Rattle.parents.proofs.dark_marks.Goals as goal

pub marks_of-requires : goal.marks_of-requires
marks_of-requires c = let e = sym c.all_inside.ensures ∙ c.if-all_inside.true in record { n_le_most_fields = inside_few _ _ e; inside = inside_is _ _ e }

pub returns-then-all_inside : goal.returns-then-all_inside
unfolding dark_mark
returns-then-all_inside c = λ f. let e = sym c.all_inside.ensures ∙ c.if-all_inside.true in rw e (c.marks_of.ensures f)

pub returns : goal.returns
unfolding dark_mark
returns c = λ f. let e = sym c.all_inside.ensures ∙ c.if-all_inside.false in rw e (none_marked most_fields f)
