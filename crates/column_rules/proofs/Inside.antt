-- A page in the file part: its range, check bytes included, does not pass the end.
-- Assumes nothing.
use Prim.Native.Nat.{ℕ, ◌+◌, ◌≤◌}
use mathlib.Core.Path.{◌≡◌, refl, sym, ◌∙◌}
use mathlib.Core.Bool.{Bool, true, false}
use mathlib.Core.List.{List}
use native.Mathlib.Omega.{arith}
use lib.Dec.{leb, eqb}
use lib.ListN.{length, drop, length-drop}
use lib.Seq.{length-take-le}
use borrow.Author.Tests.{leb-true, le-leb}
use Rattle.numbers.specs.Numbers.{trailer}
use Rattle.wire.specs.Reading.{unless}
use Rattle.column_rules.specs.declared.ColumnPage.{ColumnPage}
use Rattle.column_rules.specs.Column.{inside, page_bytes}

module _ (file : List ℕ) (p : ColumnPage) where
  abbrev end : ℕ
  end = p.offset + p.size + trailer p.checksum

  inside_is : inside file p ≡ leb end (length file)
  inside_is = by (leb end (length file))
    where
      by : (b : Bool) → eqb (unless b 18 0) 0 ≡ b
      by true = refl
      by false = refl

  pub inside_ends : inside file p ≡ true → p.offset + p.size + trailer p.checksum ≤ length file
  inside_ends h = leb-true end (length file) (sym inside_is ∙ h)

  pub ends_inside : p.offset + p.size + trailer p.checksum ≤ length file → inside file p ≡ true
  ends_inside h = inside_is ∙ le-leb end (length file) h

  -- then all its bytes are there
  pub length_inside : inside file p ≡ true → length (page_bytes file p) ≡ p.size + trailer p.checksum
  length_inside h =
      let ends = inside_ends h in
      length-take-le (p.size + trailer p.checksum) (drop p.offset file) (omega (arith, length-drop p.offset file))
