use Prim.Native.Nat.{◌+◌, ◌-◌}
use Rattle.wire.proofs.Laws.{place_passed_on}
use Rattle.wire.specs.Reading.{refused}
use Rattle.wire.specs.Answers.{as_step}
use borrow.Author.Rules.{rules}
use mathlib.Core.Path.{◌≡◌, refl, sym, ap, ◌∙◌}
use native.Mathlib.Omega.{arith}
use lib.ListN.{length}
use Rattle.envelope.specs.Features.{features}
use Rattle.envelope.proofs.FeatureLaws.{features_last, features_more, features_refused, features_none}
use Rattle.envelope.proofs.features.features_at.Goals as goal

pub returns-then-word-eq0 : goal.returns-then-word-eq0
returns-then-word-eq0 c = sym (c.loop-done.invariant ∙ features_last _ _ _ (omega (arith, c.loop-done-test.true)) c.if-word-eq0.true (sym c.feature_word.ensures ∙ ap as_step c.in_ok-word.was))

pub loop-done-preserved : goal.loop-done-preserved
loop-done-preserved c = let less : length c.args.s.now - c.loop-done.done - 1 ≡ length c.args.s.now - (c.loop-done.done + 1) = omega arith in
    c.loop-done.invariant ∙ features_more _ _ _ (omega (arith, c.loop-done-test.true)) c.if-word-eq0.false (sym c.feature_word.ensures ∙ ap as_step c.in_ok-word.was) ∙ ap (λ n. features n c.args.s.now c.in_ok-word.next) less

pub returns-in_err-word : goal.returns-in_err-word
returns-in_err-word c = place_passed_on c.from_residual.result _ c.from_residual.ensures.1 ∙ (sym (c.loop-done.invariant ∙ features_refused _ _ _ (omega (arith, c.loop-done-test.true)) (sym c.feature_word.ensures ∙ ap as_step c.in_err-word.was)))

pub returns : goal.returns
returns c = let e : length c.args.s.now - c.loop-done.done ≡ 0 = omega arith in
    ap refused c.fault_at.ensures ∙ sym (c.loop-done.invariant ∙ ap (λ n. features n c.args.s.now c.loop-done.at) e ∙ features_none _ _)
