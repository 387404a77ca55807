use Rattle.envelope.specs.Answers.{open_step}
use Rattle.header_schema.proofs.SchemaLaws.{header_accepted, header_refuses, its_checksum}
use Rattle.footer.proofs.ReadLaws.{answered_refused, header_first, not_opened, footer_read_lem}
use mathlib.Core.Path.{sym, ap, ◌∙◌}
use borrow.Author.Rules.{rules}
use Rattle.footer.proofs.read_footer.Goals as goal

pub returns-in-Ok-open_envelope : goal.returns-in-Ok-open_envelope
returns-in-Ok-open_envelope c = let a = c.args in
    let w = header_accepted a.header.now c.read_schema-schema.ensures c.in-Ok.is in
    footer_read_lem a.header.now a.footer.now a.file_length w.2 (sym c.open_envelope.ensures ∙ ap open_step c.in-Ok-open_envelope.is) (its_checksum a.header.now c.read_schema-schema.ensures w.2) c.up_to.ensures c.carries_checksums.ensures c.read_payload.ensures

pub returns-in-Err-open_envelope : goal.returns-in-Err-open_envelope
returns-in-Err-open_envelope c = let w = header_accepted c.args.header.now c.read_schema-schema.ensures c.in-Ok.is in
    answered_refused _ _ (not_opened c.args.header.now c.args.footer.now c.args.file_length w.2 (sym c.open_envelope.ensures ∙ ap open_step c.in-Err-open_envelope.is))

pub returns-in-Err : goal.returns-in-Err
returns-in-Err c = let w = header_refuses c.args.header.now c.read_schema-schema.ensures c.in-Err.is in
    answered_refused _ _ (header_first c.args.header.now c.args.footer.now c.args.file_length w)
