use Prim.Native.Nat.{ℕ}
use mathlib.Core.List.{List}
use mathlib.Core.Path.{sym, ap, ◌∙◌}
use lib.ListN.{replicate}
use Rattle.wire.proofs.Laws.{passed_on, mapped_refused}
use Rattle.envelope.specs.Envelope.{whole}
use Rattle.header.specs.Header.{payload}
use Rattle.header.proofs.HeaderLaws.{chained_refused}
use Rattle.header_payload.specs.Answers.{scan_of}
use Rattle.header_payload.proofs.PayloadLaws.{settled_refused}
use Rattle.header_scan.proofs.ChainLaws.{settled_still, fields_room, chain_refused, chains_end, settled_chained}
use borrow.Author.Rules.{rules}
use Rattle.header_scan.proofs.scan_chained.Goals as goal
use Rattle.wire.specs.Answers.{as_step}

pub chain_fault-requires : goal.chain_fault-requires
chain_fault-requires c = let a = c.args in
    let e = sym (ap as_step c.in_ok-scan.was) ∙ c.scan_payload.ensures.result_value in
    fields_room a.strict a.s.now c.scan_payload.ensures.settled e

pub returns-in-None : goal.returns-in-None
returns-in-None c = let a = c.args in
    let k = c.scan_payload.ensures.settled in
    let e = sym (ap as_step c.in_ok-scan.was) ∙ c.scan_payload.ensures.result_value in
    let w = sym c.endless_chain.ensures ∙ c.in-None.is in
    record { result_value = chains_end a.strict a.s.now k e w; settled = settled_chained a.strict a.s.now k e w }

pub returns-in-Some : goal.returns-in-Some
returns-in-Some c = let a = c.args in
    let k = c.scan_payload.ensures.settled in
    let e = sym (ap as_step c.in_ok-scan.was) ∙ c.scan_payload.ensures.result_value in
    let w = chain_refused a.strict a.s.now k e _ (sym c.endless_chain.ensures ∙ c.in-Some.is) in
    let z = c.clear.ensures in
    let same : ℕ → List ℕ = λ n. replicate n 0 in
    record { result_value = rw (w, c.chain_fault.ensures); settled = settled_refused w z.parents_after z.flags_after (z.fields_after ∙ ap same c.scan_payload.auto.fields) (z.columns_after ∙ ap same c.scan_payload.auto.columns) (z.aliases_after ∙ ap same c.scan_payload.auto.aliases) }

pub returns-in_err-scan : goal.returns-in_err-scan
returns-in_err-scan c = let a = c.args in
    let e = mapped_refused scan_of (whole a.strict (payload a.strict) a.s.now 4) (sym (ap as_step c.in_err-scan.was) ∙ c.scan_payload.ensures.result_value) in
    record { result_value = passed_on c.from_residual.result _ c.from_residual.ensures.1 ∙ rw (chained_refused a.s.now e); settled = settled_still a.strict a.s.now c.scan_payload.ensures.settled e }
