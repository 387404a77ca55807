use mathlib.Core.Path.{refl, sym, ◌∙◌}
use native.Mathlib.Omega.{arith}
use Rattle.rows.specs.Words.{most_fields}
use Rattle.parents.specs.Parents.{endless}
use Rattle.chain_moves.specs.Moves.{total_moves}
use Rattle.chain_moves.proofs.MovesLaws.{sum_le}
use Rattle.chain_moves.proofs.Summing.{sum_starts, sum_goes, sum_never, sum_ends}
use Rattle.chain_moves.proofs.sum_of_moves.Goals as goal

pub returns-then-n-eq0 : goal.returns-then-n-eq0
unfolding total_moves endless
returns-then-n-eq0 c = rw (c.if-n-eq0.true) refl

pub loop-f-init : goal.loop-f-init
loop-f-init c = sum_starts _ _ most_fields c.requires.n_le_most_fields.0

pub climb-requires : goal.climb-requires
climb-requires c = let p = c.requires in
    record { n_le_most_fields = (p.n_le_most_fields.0, c.loop-f-test.true, p.n_le_most_fields.1); inside = p.inside; followed = c.loop-f.invariant.followed; known = c.loop-f.invariant.known }

pub overflow_add-total : goal.overflow_add-total
overflow_add-total c = let s = c.args in
    let f = c.loop-f.f in
    let a = sum_le s.parents.now most_fields s.n f (omega arith) in
    omega arith

pub loop-f-preserved : goal.loop-f-preserved
loop-f-preserved c = let e = sym c.in-Some.is ∙ c.climb.ensures.value in
    sum_goes _ _ c.requires.inside _ _ _ _ _ c.loop-f.invariant c.loop-f-test.true _ e _ _ c.climb.ensures.followed_2

pub returns-in_default : goal.returns-in_default
returns-in_default c = sum_never _ _ c.requires.inside _ _ _ _ _ c.loop-f.invariant c.loop-f-test.true (sym c.in_default.is ∙ c.climb.ensures.value)

pub returns : goal.returns
returns c = sum_ends _ _ c.requires.inside _ _ _ _ _ c.loop-f.invariant (omega arith)
