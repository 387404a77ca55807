use Rattle.wire.proofs.Laws.{passed_on}
use mathlib.Core.Path.{sym, ap, ◌∙◌}
use native.Mathlib.Omega.{arith}
use Rattle.wire.specs.Reading.{counted}
use Rattle.wire.specs.Answers.{as_step}
use Rattle.frames.specs.Frames.{record_of, at_most}
use Rattle.frames.proofs.Laws.{count_most}
use Rattle.rows.specs.Words.{most_fields}
use Rattle.records.specs.Records.{field}
use Rattle.std.specs.Prelude.{ℕ, Result}
use Rattle.wire.specs.declared.Fault.{Fault}
use Rattle.records.specs.declared.HeaderTexts.{HeaderTexts}
use Rattle.header_lists.specs.Next.{fields_next}
use Rattle.header_lists.proofs.KeptLaws.{kept_list, counted_list, kept_refused, head_refused}
use borrow.Author.Rules.{rules}
use Rattle.header_lists.proofs.scan_field_list.Goals as goal

pub scan_fields-scanned-requires : goal.scan_fields-scanned-requires
scan_fields-scanned-requires c = let most = count_most most_fields _ _ (sym c.list_head_at_most.ensures ∙ ap as_step c.in_ok-head.was) in
    (most, omega (arith, most, c.scan_fields-arg-1.given), omega (arith, most, c.scan_fields-arg-2-1.given))

pub shape_of-rows : goal.shape_of-rows
shape_of-rows c = c.scan_fields-scanned.auto.rows

pub returns : goal.returns
returns c = let a = c.args in
    let is = ap (λ (x : Result (HeaderTexts × ℕ) Fault). fields_next a.strict a.s.now (as_step x)) c.in_ok-at.was in
    let head = sym c.list_head_at_most.ensures ∙ ap as_step c.in_ok-head.was in
    let k = c.scan_fields-scanned.ensures in record { result_value = counted_list a.strict (at_most most_fields) (λ n _. record_of a.strict (field n)) a.s.now _ is head c.up_to.ensures k.result_value c.close_list.ensures; kept = kept_list a.strict (at_most most_fields) (λ n _. record_of a.strict (field n)) a.s.now _ is head c.up_to.ensures k.kept; kept_2 = kept_list a.strict (at_most most_fields) (λ n _. record_of a.strict (field n)) a.s.now _ is head c.up_to.ensures k.kept_2; kept_3 = kept_list a.strict (at_most most_fields) (λ n _. record_of a.strict (field n)) a.s.now _ is head c.up_to.ensures k.kept_3 }

pub returns-in_err-head : goal.returns-in_err-head
returns-in_err-head c = let a = c.args in
    let is = ap (λ (x : Result (HeaderTexts × ℕ) Fault). fields_next a.strict a.s.now (as_step x)) c.in_ok-at.was in
    let e = head_refused a.strict (at_most most_fields) (λ n _. record_of a.strict (field n)) a.s.now _ is (sym c.list_head_at_most.ensures ∙ ap as_step c.in_err-head.was) in
    record { result_value = passed_on c.from_residual-in_err-head.result _ c.from_residual-in_err-head.ensures.1 ∙ sym (ap counted e); kept = kept_refused e; kept_2 = kept_refused e; kept_3 = kept_refused e }

pub returns-in_err-at : goal.returns-in_err-at
returns-in_err-at c = let a = c.args in
    let e = ap (λ (x : Result (HeaderTexts × ℕ) Fault). fields_next a.strict a.s.now (as_step x)) c.in_err-at.was in
    record { result_value = passed_on c.from_residual.result _ c.from_residual.ensures.1 ∙ sym (ap counted e); kept = kept_refused e; kept_2 = kept_refused e; kept_3 = kept_refused e }
