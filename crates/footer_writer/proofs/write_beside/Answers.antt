use Rattle.writing.specs.Rows.{footer_rows}
use Rattle.writing.specs.Footer.{footer_piece}
use Rattle.stores.proofs.Answers.{refused_answer}
use Rattle.footer_writer.proofs.Whole.{footer_roomless, footer_written}
use Rattle.footer_writer.proofs.write_beside.Goals as goal

pub returns-then-number-ne0 : goal.returns-then-number-ne0
returns-then-number-ne0 c = let a = c.args in refused_answer 2 (footer_piece a.checksum a.file_length (footer_rows a.clusters.now a.metadata.now)) a.out.now _ c.footer_number-number.ensures c.if-number-ne0.true

pub returns-then-out-long : goal.returns-then-out-long
returns-then-out-long c = let a = c.args in footer_roomless a.checksum a.file_length a.clusters.now a.metadata.now a.out.now c.footer_number-number.ensures c.if-number-ne0.false (c.footer_long-long.ensures a.checksum a.file_length) c.if-out-long.true

pub returns : goal.returns
returns c = let a = c.args in footer_written a.checksum a.file_length a.clusters.now a.metadata.now a.out.now c.footer_number-number.ensures c.if-number-ne0.false (c.footer_long-long.ensures a.checksum a.file_length) c.if-out-long.false (c.write_envelope.ensures a.file_length)
