use Rattle.envelope.specs.Envelope.{checksum_of}
use Rattle.header_schema.proofs.SchemaLaws.{header_accepted, header_refuses, its_checksum}
use Rattle.writing.specs.Rows.{footer_rows}
use Rattle.writing.specs.Footer.{footer_piece}
use Rattle.stores.proofs.Answers.{header_refused_lem}
use Rattle.footer_writer.proofs.Whole.{footer_beside_lem}
use Rattle.footer_writer.proofs.write_footer.Goals as goal

pub returns-in-Ok : goal.returns-in-Ok
returns-in-Ok c = let a = c.args in
    let (_, _, w) = header_accepted a.header.now c.read_schema-schema.ensures c.in-Ok.is in
    footer_beside_lem a.header.now a.clusters.now a.metadata.now a.out.now a.file_length w (its_checksum a.header.now c.read_schema-schema.ensures w) c.write_beside.ensures

pub returns-in-Err : goal.returns-in-Err
returns-in-Err c = let a = c.args in
    header_refused_lem 2 (λ _. footer_piece (checksum_of a.header.now) a.file_length (footer_rows a.clusters.now a.metadata.now)) a.out.now (header_refuses a.header.now c.read_schema-schema.ensures c.in-Err.is)
