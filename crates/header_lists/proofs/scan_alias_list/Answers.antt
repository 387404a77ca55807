use Rattle.wire.proofs.Laws.{passed_on}
use Prim.Native.Nat.{ℕ}
use mathlib.Core.List.{List}
use mathlib.Core.Path.{sym, ap, ◌∙◌}
use lib.ListN.{take}
use Rattle.wire.specs.Reading.{counted}
use Rattle.wire.specs.Answers.{as_step}
use Rattle.std.specs.Prelude.{Result}
use Rattle.wire.specs.declared.Fault.{Fault}
use Rattle.frames.specs.Frames.{record_of, at_most}
use Rattle.rows.specs.Words.{most_aliases}
use Rattle.records.specs.Records.{alias}
use Rattle.header.specs.Header.{alias_list}
use Rattle.header_lists.specs.Next.{aliases_next}
use Rattle.header_lists.proofs.KeptLaws.{kept_list, counted_list, kept_refused, head_refused}
use borrow.Author.Rules.{rules}
use Rattle.header_lists.proofs.scan_alias_list.Goals as goal

pub shape_of-rows : goal.shape_of-rows
shape_of-rows c = c.scan_aliases-scanned.auto.rows

pub returns : goal.returns
returns c = let a = c.args in
    let m = c.in_ok-m.m in
    let known = c.first_words-of_fields.result.now in
    let is =
    ap (λ (x : Result (ℕ × ℕ) Fault). aliases_next a.strict a.s.now a.flags.now (as_step a.fields) (as_step x)) c.in_ok-m.was
    ∙ ap (λ (v : List ℕ). alias_list a.strict v m a.s.now c.in_ok-m.at) (sym (c.first_words-of_fields.ensures ∙ ap (λ (n : ℕ). take n a.flags.now) c.number_in.ensures)) in
    let head = sym c.list_head_at_most.ensures ∙ ap as_step c.in_ok-head.was in
    let k = c.scan_aliases-scanned.ensures in record { result_value = counted_list a.strict (at_most most_aliases) (λ _ _. record_of a.strict (alias known m)) a.s.now _ is head c.up_to-inner.ensures k.result_value c.close_list.ensures; kept = kept_list a.strict (at_most most_aliases) (λ _ _. record_of a.strict (alias known m)) a.s.now _ is head c.up_to-inner.ensures k.kept }

pub returns-in_err-head : goal.returns-in_err-head
returns-in_err-head c = let a = c.args in
    let m = c.in_ok-m.m in
    let is = ap (λ (x : Result (ℕ × ℕ) Fault). aliases_next a.strict a.s.now a.flags.now (as_step a.fields) (as_step x)) c.in_ok-m.was in
    let e = head_refused a.strict (at_most most_aliases) (λ _ _. record_of a.strict (alias _ m)) a.s.now _ is (sym c.list_head_at_most.ensures ∙ ap as_step c.in_err-head.was) in
    record { result_value = passed_on c.from_residual-in_err-head.result _ c.from_residual-in_err-head.ensures.1 ∙ sym (ap counted e); kept = kept_refused e }

pub returns-in_err-m : goal.returns-in_err-m
returns-in_err-m c = let a = c.args in
    let e = ap (λ (x : Result (ℕ × ℕ) Fault). aliases_next a.strict a.s.now a.flags.now (as_step a.fields) (as_step x)) c.in_err-m.was in
    record { result_value = passed_on c.from_residual.result _ c.from_residual.ensures.1 ∙ sym (ap counted e); kept = kept_refused e }
