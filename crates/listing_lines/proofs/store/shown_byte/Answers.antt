-- `listing_lines::store::shown_byte` meets its contract. Assumes nothing.
use borrow.Author.Tests.{eq-eqb, ne_eqb, lt-ltb, le-ltb}
use Rattle.listing_lines.proofs.store.shown_byte.Goals as goal

pub returns-then-byte-lt32 : goal.returns-then-byte-lt32
returns-then-byte-lt32 c = rw (lt-ltb c.args.byte 32 c.if-byte-lt32.true)

pub returns-then-byte-eq127 : goal.returns-then-byte-eq127
returns-then-byte-eq127 c = rw (le-ltb c.args.byte 32 c.if-byte-lt32.false, eq-eqb c.args.byte 127 c.if-byte-eq127.true)

pub returns : goal.returns
returns c = rw (le-ltb c.args.byte 32 c.if-byte-lt32.false, ne_eqb c.args.byte 127 c.if-byte-eq127.false)
