use mathlib.Core.Path.{sym, ap, ◌∙◌}
use Rattle.envelope.specs.Answers.{open_step}
use Rattle.header.proofs.HeaderLaws.{header_open, header_refused_lem}
use Rattle.header_payload.proofs.PayloadLaws.{settled_refused}
use borrow.Author.Rules.{rules}
use Rattle.header_scan.proofs.scan_header.Goals as goal

pub returns-in-Ok : goal.returns-in-Ok
returns-in-Ok c = rw (header_open c.args.envelope.now (sym c.open_envelope.ensures ∙ ap open_step c.in-Ok.is), ← c.up_to.ensures) c.scan_chained.ensures

pub returns-in-Err : goal.returns-in-Err
returns-in-Err c = let e = header_refused_lem c.args.envelope.now (sym c.open_envelope.ensures ∙ ap open_step c.in-Err.is) in
    let z = c.clear.ensures in
    record { result_value = rw e; settled = settled_refused e z.parents_after z.flags_after z.fields_after z.columns_after z.aliases_after }
