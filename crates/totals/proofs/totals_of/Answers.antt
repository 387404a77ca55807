use native.Mathlib.Omega.{arith}
use Rattle.totals.proofs.TotalLaws.{passed_none, passed_more, passed_not, passed_all}
use Rattle.totals.proofs.totals_of.Goals as goal

pub loop-f-init : goal.loop-f-init
loop-f-init c = passed_none

pub loop-f-preserved : goal.loop-f-preserved
loop-f-preserved c =
    passed_more c.loop-f.invariant (omega arith) (omega arith, omega arith) _ (c.agreeing-marks.ensures c.loop-f.f (omega arith)) c.field_agrees.ensures c.if-not-field_agrees.false

pub returns-then-not-field_agrees : goal.returns-then-not-field_agrees
returns-then-not-field_agrees c =
    passed_not c.loop-f.invariant (omega arith) (omega arith, omega arith) _ (c.agreeing-marks.ensures c.loop-f.f (omega arith)) c.field_agrees.ensures c.if-not-field_agrees.true

pub returns : goal.returns
returns c = passed_all c.loop-f.invariant (omega arith)
