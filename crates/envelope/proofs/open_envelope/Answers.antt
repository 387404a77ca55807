use Prim.Native.Nat.{◌-◌}
use mathlib.Core.Path.{sym}
use native.Mathlib.Omega.{arith}
use lib.ListN.{length}
use lib.Seq.{length-take-le}
use borrow.Author.Tests.{le-leb, lt-leb, eq-eqb, ne_eqb}
use Rattle.envelope.specs.Envelope.{opened}
use borrow.Author.Rules.{rules}
use Rattle.envelope.proofs.open_envelope.Goals as goal

pub returns-then-e-gt-MOST_BYTES : goal.returns-then-e-gt-MOST_BYTES
unfolding opened
returns-then-e-gt-MOST_BYTES c = simp (lt-leb _ _ c.if-e-gt-MOST_BYTES.true, c.fault_at.ensures)

pub returns-then-e-lt8 : goal.returns-then-e-lt8
unfolding opened
returns-then-e-lt8 c = simp (le-leb _ _ c.if-e-gt-MOST_BYTES.false, lt-leb _ _ c.if-e-lt8.true, c.fault_at-then-e-lt8.ensures)

pub returns-then-sum-little_4 : goal.returns-then-sum-little_4
unfolding opened
returns-then-sum-little_4 c = simp (le-leb _ _ c.if-e-gt-MOST_BYTES.false, le-leb _ _ c.if-e-lt8.false, ← c.crc32-sum.ensures, ← (c.little_4.ensures.0.there (omega arith)), ne_eqb _ _ c.if-sum-little_4.true, c.fault_at-then-sum-little_4.ensures)

pub returns-then-minimum-lt1 : goal.returns-then-minimum-lt1
unfolding opened
returns-then-minimum-lt1 c = simp (le-leb _ _ c.if-e-gt-MOST_BYTES.false, le-leb _ _ c.if-e-lt8.false, ← c.crc32-sum.ensures, ← (c.little_4.ensures.0.there (omega arith)), eq-eqb _ _ c.if-sum-little_4.false, ← (c.little_2-version.ensures.0.there (omega arith)), ← (c.little_2-minimum.ensures.0.there (omega arith)), lt-leb _ _ c.if-minimum-lt1.true, c.fault_at-then-minimum-lt1.ensures)

pub returns-then-version-minimum : goal.returns-then-version-minimum
unfolding opened
returns-then-version-minimum c = simp (le-leb _ _ c.if-e-gt-MOST_BYTES.false, le-leb _ _ c.if-e-lt8.false, ← c.crc32-sum.ensures, ← (c.little_4.ensures.0.there (omega arith)), eq-eqb _ _ c.if-sum-little_4.false, ← (c.little_2-version.ensures.0.there (omega arith)), ← (c.little_2-minimum.ensures.0.there (omega arith)), le-leb _ _ c.if-minimum-lt1.false, lt-leb _ _ c.if-version-minimum.true, c.fault_at-then-version-minimum.ensures)

pub returns-then-supported-minimum : goal.returns-then-supported-minimum
unfolding opened
returns-then-supported-minimum c = simp (le-leb _ _ c.if-e-gt-MOST_BYTES.false, le-leb _ _ c.if-e-lt8.false, ← c.crc32-sum.ensures, ← (c.little_4.ensures.0.there (omega arith)), eq-eqb _ _ c.if-sum-little_4.false, ← (c.little_2-version.ensures.0.there (omega arith)), ← (c.little_2-minimum.ensures.0.there (omega arith)), le-leb _ _ c.if-minimum-lt1.false, le-leb _ _ c.if-version-minimum.false, lt-leb _ _ c.if-supported-minimum.true, c.fault_at-then-supported-minimum.ensures)

pub returns : goal.returns
unfolding opened
returns c = simp (le-leb _ _ c.if-e-gt-MOST_BYTES.false, le-leb _ _ c.if-e-lt8.false, ← c.crc32-sum.ensures, ← (c.little_4.ensures.0.there (omega arith)), eq-eqb _ _ c.if-sum-little_4.false, ← (c.little_2-version.ensures.0.there (omega arith)), ← (c.little_2-minimum.ensures.0.there (omega arith)), le-leb _ _ c.if-minimum-lt1.false, le-leb _ _ c.if-version-minimum.false, le-leb _ _ c.if-supported-minimum.false)
