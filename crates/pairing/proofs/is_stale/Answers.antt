use native.Mathlib.Omega.{arith}
use borrow.Author.Tests.{le-leb, lt-leb, eq-eqb, ne_eqb}
use Rattle.pairing.specs.Stale.{stale}
use borrow.Author.Rules.{rules}
use Rattle.pairing.proofs.is_stale.Goals as goal

pub returns-then-length-lt8 : goal.returns-then-length-lt8
unfolding stale
returns-then-length-lt8 c = simp (lt-leb _ _ c.if-length-lt8.true)

pub returns-then-checksum-eq-NO_CHECKSUM : goal.returns-then-checksum-eq-NO_CHECKSUM
unfolding stale
returns-then-checksum-eq-NO_CHECKSUM c = simp (le-leb _ _ c.if-length-lt8.false, eq-eqb _ _ c.if-checksum-eq-NO_CHECKSUM.true)

pub returns : goal.returns
unfolding stale
returns c = simp (le-leb _ _ c.if-length-lt8.false, ne_eqb _ _ c.if-checksum-eq-NO_CHECKSUM.false, ← (c.little_4.ensures.0.there (omega arith)))
