use Prim.Native.Nat.{ℕ, ◌+◌, ◌*◌, ◌≤◌}
use mathlib.Core.Path.{ap, ◌∙◌}
use native.Mathlib.Omega.{arith}
use Rattle.verdicts.specs.Length.{capped}
use Rattle.verdicts.proofs.Capped.{capped_big, rows_none, rows_many, rows_fit}
use borrow.Author.Rules.{rules}
use Rattle.verdicts.proofs.length.with_rows.Goals as goal

pub returns-then-size-eq0 : goal.returns-then-size-eq0
returns-then-size-eq0 c = let a = c.args in c.grown.ensures ∙ ap (λ (k : ℕ). capped (a.total + k)) (rows_none a.rows a.size c.if-size-eq0.true)

pub returns-then-rows-gt-CEILING : goal.returns-then-rows-gt-CEILING
returns-then-rows-gt-CEILING c = let a = c.args in
    let many : a.rows ≤ a.rows * a.size = rows_many a.rows a.size (omega (arith, c.if-size-eq0.false)) in
    capped_big (a.total + a.rows * a.size) (omega (arith, many, c.if-rows-gt-CEILING.true))

pub overflow_mul-rows : goal.overflow_mul-rows
overflow_mul-rows c = let a = c.args in omega (arith, rows_fit a.rows a.size (omega (arith, c.if-rows-gt-CEILING.false)) (omega (arith, c.well_formed)))

pub returns : goal.returns
returns c = c.grown-2.ensures
