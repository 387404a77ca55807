use mathlib.Core.Path.{sym, ap, ◌∙◌}
use Prim.Native.Nat.{◌+◌}
use native.Mathlib.Omega.{arith}
use Rattle.page_rules.specs.Page.{outcome_of}
use Rattle.column_rules.specs.Column.{Decoding}
use Rattle.column_decoding.proofs.Turns.{Reached, reached_none, reached_more, reached_refused, reached_all, too_many_lem}
use Rattle.column_decoding.proofs.decode_column.Goals.{In-Ok}
use Rattle.column_decoding.proofs.decode_column.Goals as goal

pub returns-then-count-gt-MOST_COLUMN_PAGES : goal.returns-then-count-gt-MOST_COLUMN_PAGES
returns-then-count-gt-MOST_COLUMN_PAGES c = let a = c.args in
    let e = too_many_lem a.column_type a.file.now a.pages.now a.out.now c.if-count-gt-MOST_COLUMN_PAGES.true in
    record { answers = ap (λ (d : Decoding). d.outcome) e; leaves = ap (λ (d : Decoding). d.words) e }

pub loop-i-init : goal.loop-i-init
loop-i-init c = let a = c.args in
    reached_none a.column_type a.file.now a.pages.now a.out.now

-- one page more
more : (c : In-Ok) → Reached c.args.column_type c.args.file.now c.args.pages.now c.args.out.now (c.loop-i.i + 1) (c.loop-i.start + c.in-Ok.elements) c.decode_one.new.out
more c = let a = c.args in
    let w = c.width_of-width.ensures in
    reached_more a.column_type a.file.now a.pages.now a.out.now c.loop-i.invariant c.loop-i-test.true c.page_at.ensures
    (sym (ap outcome_of c.in-Ok.is) ∙ c.decode_one.ensures.answers a.column_type w)
    (c.decode_one.ensures.leaves a.column_type w c.marks_of-marks.ensures) c.decode_one.auto.out

pub overflow_add-start : goal.overflow_add-start
overflow_add-start c = let r = more (goal.at.overflow_add-start c).In-Ok in
    omega (arith, r.room, r.long)

pub loop-i-preserved : goal.loop-i-preserved
loop-i-preserved c = more (goal.at.loop-i-preserved c).In-Ok

pub shape_of-out-in-Err : goal.shape_of-out-in-Err
shape_of-out-in-Err c = c.decode_one.auto.out ∙ c.loop-i.invariant.long

pub returns-in-Err : goal.returns-in-Err
returns-in-Err c = let a = c.args in
    let w = c.width_of-width.ensures in
    let e = reached_refused a.column_type a.file.now a.pages.now a.out.now c.loop-i.invariant c.loop-i-test.true c.page_at.ensures
    (sym (ap outcome_of c.in-Err.is) ∙ c.decode_one.ensures.answers a.column_type w)
    (c.decode_one.ensures.leaves a.column_type w c.marks_of-marks.ensures) (omega arith) in
    record { answers = ap (λ (d : Decoding). d.outcome) e; leaves = ap (λ (d : Decoding). d.words) e }

pub shape_of-out : goal.shape_of-out
shape_of-out c = c.loop-i.invariant.long

pub returns : goal.returns
returns c = let a = c.args in
    let e = reached_all a.column_type a.file.now a.pages.now a.out.now c.loop-i.invariant (omega arith) (omega arith) in
    record { answers = ap (λ (d : Decoding). d.outcome) e; leaves = ap (λ (d : Decoding). d.words) e }
