use Prim.Native.Nat.{ℕ}
use mathlib.Core.List.{List}
use lib.ListN.{replicate}
use mathlib.Core.Path.{sym, ap, ◌∙◌}
use Rattle.wire.proofs.Laws.{mapped_found, mapped_refused}
use Rattle.envelope.specs.Envelope.{whole}
use Rattle.header.specs.Header.{payload}
use Rattle.header_payload.specs.Answers.{scan_of}
use Rattle.header_payload.proofs.ListLaws.{scan_is}
use Rattle.header_payload.proofs.PayloadLaws.{settled_found, settled_refused}
use borrow.Author.Rules.{rules}
use Rattle.header_payload.proofs.scan_payload.Goals as goal
use Rattle.wire.specs.Answers.{as_step}

pub returns-in-Ok : goal.returns-in-Ok
returns-in-Ok c = let a = c.args in
    let f = c.scan_field_list-n.ensures in
    let m = c.scan_column_list-m.ensures in
    let l = c.scan_alias_list-l.ensures in
    let e = sym (ap as_step c.in-Ok.is) ∙ c.gather.ensures ∙ scan_is a.strict a.s.now c.texts_at-texts.ensures f.result_value f.kept_2 m.result_value l.result_value in
    record { result_value = e; settled = settled_found a.strict a.s.now c.texts_at-texts.ensures f.result_value m.result_value f.kept f.kept_2 f.kept_3 m.kept l.kept (mapped_found scan_of (whole a.strict (payload a.strict) a.s.now 4) e).was }

pub returns-in-Err : goal.returns-in-Err
returns-in-Err c = let a = c.args in
    let f = c.scan_field_list-n.ensures in
    let e = sym (ap as_step c.in-Err.is) ∙ c.gather.ensures ∙ scan_is a.strict a.s.now c.texts_at-texts.ensures f.result_value f.kept_2 c.scan_column_list-m.ensures.result_value c.scan_alias_list-l.ensures.result_value in
    let z = c.clear.ensures in
    let same : ℕ → List ℕ = λ n. replicate n 0 in
    record { result_value = e; settled = settled_refused (mapped_refused scan_of (whole a.strict (payload a.strict) a.s.now 4) e) z.parents_after z.flags_after (z.fields_after ∙ ap same c.scan_field_list-n.auto.rows) (z.columns_after ∙ ap same c.scan_column_list-m.auto.rows) (z.aliases_after ∙ ap same c.scan_alias_list-l.auto.rows) }
