use mathlib.Core.Path.{◌≡◌, refl, sym, ◌∙◌}
use native.Mathlib.Omega.{arith}
use Rattle.rows.specs.Words.{most_fields}
use Rattle.parents.specs.Parents.{endless}
use Rattle.parents.proofs.Following.{marked_none}
use Rattle.parents.proofs.EndlessLaws.{endless_more, endless_found, endless_take}
use Rattle.parents.proofs.walk.lowest_endless.Goals as goal

pub returns-then-n-eq0 : goal.returns-then-n-eq0
unfolding endless
returns-then-n-eq0 c = rw (c.if-n-eq0.true) refl

pub loop-f-init : goal.loop-f-init
unfolding endless
loop-f-init c = (refl, marked_none _ _ most_fields c.requires.n_le_most_fields)

pub follow-requires : goal.follow-requires
follow-requires c = let p = c.requires in
    record { n_le_most_fields = (p.n_le_most_fields, c.loop-f-test.true, omega (arith, p.n_le_most_fields, c.well_formed)); inside = p.inside; marked = c.loop-f.invariant.1 }

pub loop-f-preserved : goal.loop-f-preserved
loop-f-preserved c = let i = c.loop-f.invariant in
    let e = c.follow.ensures in
    (endless_more _ _ _ i.0 (sym e.value ∙ c.if-not-follow.false), e.marked_2 c.if-not-follow.false)

pub returns-then-not-follow : goal.returns-then-not-follow
returns-then-not-follow c = let s = c.args in
    sym (endless_found _ _ _ _ c.loop-f.invariant.0 (sym c.follow.ensures.value ∙ c.if-not-follow.true) c.loop-f-test.true)
    ∙ endless_take s.parents s.n c.requires.inside _ (omega arith)

pub returns : goal.returns
returns c = let s = c.args in
    let e : c.loop-f.f ≡ s.n = omega arith in
    (rw e at (sym c.loop-f.invariant.0)) ∙ endless_take s.parents s.n c.requires.inside _ (omega arith)
