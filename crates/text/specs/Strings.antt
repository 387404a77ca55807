-- Strings: a length of four bytes, and so many bytes of characters.
use Rattle.std.specs.Prelude.{ℕ, ◌+◌, List, Bool, length, take, drop, leb}
use Rattle.numbers.specs.Choice.{pick}
use Rattle.numbers.specs.Numbers.{little}
use Rattle.utf8.specs.WellFormed.{well_formed}
use Rattle.wire.specs.Reading.{found, refused, Rule, fault}
use Rattle.wire.specs.declared.Kind.TheVariants.{Text}
use Rattle.rows.specs.declared.Text.{Text as TextRow}

-- a string whose bytes pass a test
unfoldable pub string_of : (List ℕ → Bool) → Rule TextRow
string_of good s at =
    pick (leb (at + 4) (length s))
    (pick (leb (at + 4 + little 4 s at) (length s))
    (pick (good (take (little 4 s at) (drop (at + 4) s)))
    (found (record { place = at + 4; len = little 4 s at }) (at + 4 + little 4 s at))
    (refused (fault 9 Text at)))
    (refused (fault 7 Text at)))
    (refused (fault 7 Text at))

-- the string of an envelope: its bytes, taken alone, are well-formed UTF-8
abbrev pub string : Rule TextRow
string = string_of well_formed
