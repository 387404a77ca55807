use Rattle.wire.proofs.Laws.{passed_on}
use mathlib.Core.Path.{sym, ap, ◌∙◌}
use Rattle.wire.specs.Reading.{counted}
use Rattle.wire.specs.Answers.{as_step}
use Rattle.std.specs.Prelude.{ℕ, Result}
use Rattle.wire.specs.declared.Fault.{Fault}
use Rattle.frames.specs.Frames.{record_of, at_most}
use Rattle.rows.specs.Words.{most_columns}
use Rattle.records.specs.Records.{column}
use Rattle.header_lists.specs.Next.{columns_next}
use Rattle.header_lists.proofs.KeptLaws.{kept_list, counted_list, kept_refused, head_refused}
use borrow.Author.Rules.{rules}
use Rattle.header_lists.proofs.scan_column_list.Goals as goal

pub shape_of-rows : goal.shape_of-rows
shape_of-rows c = c.scan_columns-scanned.auto.rows

pub returns : goal.returns
returns c = let a = c.args in
    let n = c.in_ok-n.n in
    let is = ap (λ (x : Result (ℕ × ℕ) Fault). columns_next a.strict a.s.now (as_step x)) c.in_ok-n.was in
    let head = sym c.list_head_at_most.ensures ∙ ap as_step c.in_ok-head.was in
    let k = c.scan_columns-scanned.ensures in record { result_value = counted_list a.strict (at_most most_columns) (λ _ _. record_of a.strict (column n)) a.s.now _ is head c.up_to.ensures k.result_value c.close_list.ensures; kept = kept_list a.strict (at_most most_columns) (λ _ _. record_of a.strict (column n)) a.s.now _ is head c.up_to.ensures k.kept }

pub returns-in_err-head : goal.returns-in_err-head
returns-in_err-head c = let a = c.args in
    let is = ap (λ (x : Result (ℕ × ℕ) Fault). columns_next a.strict a.s.now (as_step x)) c.in_ok-n.was in
    let e = head_refused a.strict (at_most most_columns) (λ _ _. record_of a.strict (column c.in_ok-n.n)) a.s.now _ is (sym c.list_head_at_most.ensures ∙ ap as_step c.in_err-head.was) in
    record { result_value = passed_on c.from_residual-in_err-head.result _ c.from_residual-in_err-head.ensures.1 ∙ sym (ap counted e); kept = kept_refused e }

pub returns-in_err-n : goal.returns-in_err-n
returns-in_err-n c = let a = c.args in
    let e = ap (λ (x : Result (ℕ × ℕ) Fault). columns_next a.strict a.s.now (as_step x)) c.in_err-n.was in
    record { result_value = passed_on c.from_residual.result _ c.from_residual.ensures.1 ∙ sym (ap counted e); kept = kept_refused e }
