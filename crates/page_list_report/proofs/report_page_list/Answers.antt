use Prim.Native.Nat.{◌+◌}
use mathlib.Core.Path.{sym, ap, ◌∙◌}
use native.Mathlib.Omega.{arith}
use lib.Seq.{length-take-le}
use borrow.Author.Tests.{ltb-true, ltb-false}
use Rattle.figure_rules.specs.Report.{Report, outcome_of, most_lists}
use Rattle.figure_rules.proofs.Tests.{reported_late}
use Rattle.page_list_report.proofs.ReportLaws.{its_figures, reported_placed, reported_refused}
use Rattle.page_list_report.proofs.report_page_list.Goals as goal

pub returns-then-not-takes_more : goal.returns-then-not-takes_more
returns-then-not-takes_more c = let a = c.args in
    let e = reported_late _ a.counts a.report.now (ltb-false (a.counts.accepted + a.counts.refused) most_lists (sym c.takes_more.ensures ∙ c.if-not-takes_more.true)) in
    record { answers = ap (λ (r : Report). r.answer) (sym e); reports = ap (λ (r : Report). outcome_of r.answer) (sym e); leaves = ap (λ (r : Report). r.words) (sym e) }

pub overflow_mul-words : goal.overflow_mul-words
overflow_mul-words c = let a = c.args in
    let s = its_figures a.header.now a.page_list.now a.entries a.file_length a.counts a.report.now (ltb-true (a.counts.accepted + a.counts.refused) most_lists (sym c.takes_more.ensures ∙ c.if-not-takes_more.false)) c.page_figures.ensures c.in-Ok.is in
    let few = s.few in
    omega arith

pub slice_bounds-figures-end : goal.slice_bounds-figures-end
slice_bounds-figures-end c = let a = c.args in
    let s = its_figures a.header.now a.page_list.now a.entries a.file_length a.counts a.report.now (ltb-true (a.counts.accepted + a.counts.refused) most_lists (sym c.takes_more.ensures ∙ c.if-not-takes_more.false)) c.page_figures.ensures c.in-Ok.is in
    let few = s.few in
    let long = s.long in
    omega arith

pub slice_bounds-place-end : goal.slice_bounds-place-end
slice_bounds-place-end c = let a = c.args in
    let s = its_figures a.header.now a.page_list.now a.entries a.file_length a.counts a.report.now (ltb-true (a.counts.accepted + a.counts.refused) most_lists (sym c.takes_more.ensures ∙ c.if-not-takes_more.false)) c.page_figures.ensures c.in-Ok.is in
    let few = s.few in
    let long = s.long in
    sym (length-take-le _ _ (omega arith))

pub place-requires : goal.place-requires
place-requires c = let a = c.args in
    let less = ltb-true (a.counts.accepted + a.counts.refused) most_lists (sym c.takes_more.ensures ∙ c.if-not-takes_more.false) in
    let s = its_figures a.header.now a.page_list.now a.entries a.file_length a.counts a.report.now less c.page_figures.ensures c.in-Ok.is in
    let few = s.few in
    let long = s.long in
    (length-take-le _ _ (omega arith), omega (arith, less))

pub overflow_add-one_refused : goal.overflow_add-one_refused
overflow_add-one_refused c = let a = c.args in
    let less = ltb-true (a.counts.accepted + a.counts.refused) most_lists (sym c.takes_more.ensures ∙ c.if-not-takes_more.false) in
    omega (arith, less)

pub returns-in-Ok : goal.returns-in-Ok
returns-in-Ok c = let a = c.args in
    let less = ltb-true (a.counts.accepted + a.counts.refused) most_lists (sym c.takes_more.ensures ∙ c.if-not-takes_more.false) in
    let e = reported_placed a.header.now a.page_list.now a.entries a.file_length a.counts a.report.now less c.page_figures.ensures c.in-Ok.is in
    record { answers = c.place.ensures.answers ∙ ap (λ (r : Report). r.answer) (sym e); reports = ap outcome_of c.place.ensures.answers ∙ ap (λ (r : Report). outcome_of r.answer) (sym e); leaves = c.place.ensures.leaves ∙ ap (λ (r : Report). r.words) (sym e) }

pub returns-in-Err : goal.returns-in-Err
returns-in-Err c = let a = c.args in
    let less = ltb-true (a.counts.accepted + a.counts.refused) most_lists (sym c.takes_more.ensures ∙ c.if-not-takes_more.false) in
    let e = reported_refused a.header.now a.page_list.now a.entries a.file_length a.counts a.report.now less c.page_figures.ensures c.in-Err.is in
    record { answers = ap (λ (r : Report). r.answer) (sym e); reports = ap (λ (r : Report). outcome_of r.answer) (sym e); leaves = ap (λ (r : Report). r.words) (sym e) }
