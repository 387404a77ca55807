use Rattle.std.proofs.Common.{ℕ, refl, arith, subst}
use borrow.Author.Count.{below_more}
use Rattle.verdicts.proofs.refused.first_of_rows.Goals as goal

pub loop-i-init : goal.loop-i-init
loop-i-init g c = λ k h. absurd (omega arith)

pub returns-then-r-ne0 : goal.returns-then-r-ne0
returns-then-r-ne0 g c =
    record {
      row = c.loop-i.i;
      most = omega arith;
      before = c.loop-i.invariant;
      refused = λ _. omega (arith, c.loop-i-test.true);
      here = λ _. c.verdict-r.ensures;
      passed = λ e. absurd (omega (arith, c.if-r-ne0.true e));
    }

pub loop-i-preserved : goal.loop-i-preserved
loop-i-preserved g c = below_more (λ (k : ℕ). g.R.RowVerdicts.gives c.args.rows.now k 0) c.loop-i.i c.loop-i.invariant (subst (λ (r : ℕ). g.R.RowVerdicts.gives c.args.rows.now c.loop-i.i r) c.if-r-ne0.false c.verdict-r.ensures)

pub returns : goal.returns
returns g c =
    record {
      row = c.loop-i.i;
      most = omega arith;
      before = c.loop-i.invariant;
      refused = λ bad. absurd (bad refl);
      here = λ h. absurd (omega arith);
      passed = λ _. omega arith;
    }
