-- What the reader takes of a header.
use Rattle.std.specs.Prelude.{ℕ, List, ◌≡◌, take}
use Rattle.header.specs.Header.{Lists, flags_of}
use Rattle.header.specs.Tables.{parents_of}
use Rattle.rows.specs.Words.{most_fields}
use Rattle.rows.specs.Tables.{columns_in}
use Rattle.column_pages.specs.ColumnPages.{bits_of}
use Rattle.column_pages.specs.Answers.{bits_in}

-- the parent and the flags of each field of a header's lists, and a table with a row of each of its n columns
pub record SchemaOf (l : Lists) (parents flags table : List ℕ) (n : ℕ) : Type 0 where
  pub parents_are : take most_fields parents ≡ parents_of l.fields
  pub flags_are : flags ≡ flags_of l.fields
  pub columns_are : columns_in table n ≡ l.columns
  pub bits_are : bits_in table n ≡ bits_of l.columns
