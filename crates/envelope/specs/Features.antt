-- Feature words, which the payloads of a header and of a footer start with.
use Rattle.std.specs.Prelude.{ℕ, zero, suc, ◌%◌, ◌^◌, eqb}
use Rattle.numbers.specs.Choice.{pick}
use Rattle.wire.specs.Reading.{Rule, refused, fault, ◌>>=◌, give, tested, unless}
use Rattle.wire.specs.declared.Kind.TheVariants.{Number}

-- a verdict on a feature word: no bit but 63 is set
abbrev pub feature_bits : ℕ → ℕ
feature_bits w = unless (eqb (w % 2 ^ 63) 0) 6 0

-- feature words: no bit but 63 may be set, and another word follows while 63 is. `most` bounds how many there can be: bytes that
-- run out before a word without bit 63 are refused 7
unfoldable pub features : ℕ → Rule (Unit {0})
features zero s at = refused (fault 7 Number at)
features (suc most) s at = (do
  w ← tested 8 feature_bits
  pick (eqb w 0) (give tt) (features most)) s at
