use mathlib.Core.Path.{sym, ◌∙◌}
use lib.Dec.{ltb}
use Rattle.std.proofs.Common.{rules, tests, take}
use Rattle.std.proofs.lemmas.Iterator.{YieldsList-from_slice}
use Rattle.std.proofs.lemmas.Iterator.Search.{all_from_yields_List}
use Rattle.parents.proofs.InsideLaws.{inside_many, inside_more, inside_all}
use Rattle.parents.proofs.inside.all_inside.Goals as goal

pub returns-then-n-gt-MOST_FIELDS : goal.returns-then-n-gt-MOST_FIELDS
returns-then-n-gt-MOST_FIELDS c = let a = c.args in sym (inside_many a.parents.now a.n c.if-n-gt-MOST_FIELDS.true)

pub returns-then-parents-n : goal.returns-then-parents-n
returns-then-parents-n c = let a = c.args in sym (inside_more a.parents.now a.n c.if-parents-n.true)

pub returns : goal.returns
returns c = let a = c.args in
    all_from_yields_List (λ x. ltb x a.n) _ _ _ c.all.ensures.ran (YieldsList-from_slice (take a.n a.parents.now) cc) (λ x b q k. search (rules, tests))
    ∙ inside_all a.parents.now a.n c.if-n-gt-MOST_FIELDS.false c.if-parents-n.false
