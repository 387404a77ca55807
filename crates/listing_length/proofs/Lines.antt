-- How long a line is.
use Prim.Native.Nat.{ℕ, ◌+◌, ◌*◌, ◌≤◌, ◌<◌}
use mathlib.Core.Bool.{Bool, true, false}
use mathlib.Core.Logic.{⊎_elim}
use mathlib.Core.List.{List}
use native.Mathlib.Omega.{arith}
use lib.Dec.{leb}
use lib.ListN.{length, drop, length-append, length-map, length-replicate}
use Rattle.numbers.proofs.Choice.{which}
use Rattle.numbers.proofs.Parts.{cut_length}
use Rattle.decimals.proofs.DigitLaws.{three_digits}
use Rattle.rows.specs.declared.Text.{Text}
use Rattle.reader.specs.Text.{text_of}
use Rattle.listing.specs.Lines.{dark_word, line, characters}

dark_length : (d : Bool) → length (dark_word d) ≤ 5
dark_length true = omega arith
dark_length false = omega arith

pub line_most : (level field : ℕ) (name type : List ℕ) (d : Bool) → field < 1000
    → length (line level field name type d) ≤ 2 * level + 11 + length name + length type
unfolding line
line_most level field name type d l =
    let digits = three_digits field l in
    let dark = dark_length d in
    simp (length-append, length-map, length-replicate) (omega arith)

-- a string has no more characters than its length says
pub characters_length : (e : List ℕ) (t : Text) → length (characters e t) ≤ t.len
unfolding text_of
characters_length e t =
    ⊎_elim (λ u. rw u (cut_length t.len (drop t.place e)).0) (λ u. rw u (omega arith)) (which (leb (t.place + t.len) (length e)))
