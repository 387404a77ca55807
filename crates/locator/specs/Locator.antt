-- Locators: a stored size and an offset in the file.
use Rattle.std.specs.Prelude.{ℕ, ◌+◌, ◌^◌, ltb, leb, eqb}
use Rattle.wire.specs.Reading.{Rule, ◌>>=◌, give, tested, unless}
use Rattle.locator.specs.declared.Range.{Range}

-- a verdict on a locator's first word: bit 31 is not set, and the stored size is the one that is due
abbrev pub stored_as : ℕ → ℕ → ℕ
stored_as size w = unless (ltb w (2 ^ 31)) 17 (unless (eqb w size) 17 0)

-- a verdict on an offset: the range of so many bytes from there on, with so many more behind it, is inside the file
abbrev pub in_file : ℕ → ℕ → ℕ → ℕ → ℕ
in_file file size behind o = unless (leb (o + size + behind) file) 18 0

-- a locator whose stored size is the one that is due, and whose range, with so many bytes behind it, is inside the file; what follows
-- sees both numbers
abbrev pub located : {A : Type 0} → ℕ → ℕ → ℕ → (ℕ → ℕ → Rule A) → Rule A
located file size behind rest = do
  stored ← tested 4 (stored_as size)
  offset ← tested 8 (in_file file stored behind)
  rest stored offset

-- such a locator alone
unfoldable pub locator : ℕ → ℕ → ℕ → Rule Range
locator file size behind = located file size behind (λ stored offset. give (record { size = stored; offset = offset }))
