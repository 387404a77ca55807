-- The characters of a string that is known by its place in the envelope and its length.
use Rattle.std.specs.Prelude.{ℕ, ◌+◌, ◌≤◌, ◌≡◌, List, [], length, take, drop, leb}
use Rattle.numbers.specs.Choice.{pick}
use Rattle.wire.specs.Reading.{found}
use Rattle.text.specs.Strings.{string}
use Rattle.rows.specs.declared.Text.{Text}

-- none where the string does not lie in the envelope
unfoldable pub text_of : List ℕ → ℕ → ℕ → List ℕ
text_of e place len = pick (leb (place + len) (length e)) (take len (drop place e)) []

-- where it lies in the envelope, its characters are the bytes that stand there
abbrev pub TextInside : Type 0
TextInside = (e : List ℕ) (place len : ℕ) → place + len ≤ length e → text_of e place len ≡ take len (drop place e)

-- every string that is read, in any container, lies in the envelope
abbrev pub StringInside : Type 0
StringInside = (e : List ℕ) (stop at : ℕ) (t : Text) (next : ℕ) → string (take stop e) at ≡ found t next → t.place + t.len ≤ length e
