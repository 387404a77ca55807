-- `header_writer::write_header` meets its contract. Assumes nothing.
use Rattle.header_writer.proofs.Whole.{header_long, header_refused_lem, header_roomless, header_written}
use borrow.Author.Rules.{rules}
use Rattle.header_writer.proofs.write_header.Goals as goal

pub returns-then-long-gt-CEILING : goal.returns-then-long-gt-CEILING
returns-then-long-gt-CEILING c = let a = c.args in
    header_long a.strings.now a.texts a.fields.now a.columns.now a.aliases.now a.out.now (c.header_long-long.ensures a.strings.now) c.if-long-gt-CEILING.true

pub returns-then-number-ne0 : goal.returns-then-number-ne0
returns-then-number-ne0 c = let a = c.args in
    header_refused_lem a.strings.now a.texts a.fields.now a.columns.now a.aliases.now a.out.now (c.header_long-long.ensures a.strings.now) c.if-long-gt-CEILING.false c.header_number-number.ensures c.if-number-ne0.true

pub returns-then-out-long : goal.returns-then-out-long
returns-then-out-long c = let a = c.args in
    header_roomless a.strings.now a.texts a.fields.now a.columns.now a.aliases.now a.out.now (c.header_long-long.ensures a.strings.now) c.if-long-gt-CEILING.false c.header_number-number.ensures c.if-number-ne0.false c.if-out-long.true

pub returns : goal.returns
returns c = let a = c.args in
    header_written a.strings.now a.texts a.fields.now a.columns.now a.aliases.now a.out.now (c.header_long-long.ensures a.strings.now) c.if-long-gt-CEILING.false c.header_number-number.ensures c.if-number-ne0.false c.if-out-long.false c.write_envelope.ensures
