use mathlib.Core.Path.{refl, sym, ◌∙◌}
use native.Mathlib.Omega.{arith}
use Rattle.utf8.proofs.Reading.{read_none, read_ill, read_next, next_fits, sized_is, sized_not}
use Rattle.utf8.proofs.walk.Goals as goal

pub loop-at-init : goal.loop-at-init
loop-at-init c = (omega arith, refl)

pub returns-in_err-width : goal.returns-in_err-width
returns-in_err-width c = let l = c.loop-at in
    c.from_residual.ensures ∙ sym (l.invariant.1 ∙ read_ill _ l.at _ c.loop-at-test.true (sized_not _ (sym c.sequence_at.ensures ∙ c.in_err-width.was)))

pub overflow_add-at : goal.overflow_add-at
overflow_add-at c = let l = c.loop-at in
    let k = sized_is _ (sym c.sequence_at.ensures ∙ c.in_ok-width.was) in
    omega (arith, next_fits c.args.s.now l.at l.invariant.0)

pub loop-at-smaller : goal.loop-at-smaller
loop-at-smaller c = let k = sized_is _ (sym c.sequence_at.ensures ∙ c.in_ok-width.was) in omega arith

pub loop-at-preserved : goal.loop-at-preserved
loop-at-preserved c = let l = c.loop-at in
    let (k, some) = sized_is _ (sym c.sequence_at.ensures ∙ c.in_ok-width.was) in (
      omega (arith, next_fits c.args.s.now l.at l.invariant.0),
      l.invariant.1 ∙ read_next _ l.at _ _ c.loop-at-test.true k some,
    )

pub returns : goal.returns
returns c = let l = c.loop-at in sym (l.invariant.1 ∙ read_none _ l.at _ c.loop-at-test.false)
