-- What the scan of a payload leaves in the tables that it is lent.
use Rattle.std.specs.Prelude.{ℕ, ◌≡◌, List, length, replicate}
use Rattle.wire.specs.Reading.{Step, found, refused}
use Rattle.rows.specs.Words.{most_fields}
use Rattle.header.specs.Header.{Lists, Header}
use Rattle.header_lists.specs.Kept.{lay_parents, lay_flags, lay_fields, lay_columns, lay_aliases}

-- what it makes of each table, of the three lists of a header

abbrev pub parents_laid : Lists → List ℕ → List ℕ
parents_laid l = lay_parents l.fields

abbrev pub flags_laid : Lists → List ℕ → List ℕ
flags_laid l = lay_flags l.fields

abbrev pub fields_laid : Lists → List ℕ → List ℕ
fields_laid l = lay_fields l.fields

abbrev pub columns_laid : Lists → List ℕ → List ℕ
columns_laid l = lay_columns l.columns

abbrev pub aliases_laid : Lists → List ℕ → List ℕ
aliases_laid l = lay_aliases l.aliases

-- a table of n words after the scan: an accepted header laid over what it held, or all zero
unfoldable pub kept : (Lists → List ℕ → List ℕ) → ℕ → List ℕ → Step Header → List ℕ
kept lay n old (found h p) = lay h.lists old
kept lay n old (refused f) = replicate n 0

-- the two arrays and the three tables after the scan
pub record Settled (x : Step Header) (p₀ p f₀ f r₀ r c₀ c a₀ a : List ℕ) : Type 0 where
  pub parents_are : p ≡ kept parents_laid most_fields p₀ x
  pub flags_are : f ≡ kept flags_laid most_fields f₀ x
  pub fields_are : r ≡ kept fields_laid (length r₀) r₀ x
  pub columns_are : c ≡ kept columns_laid (length c₀) c₀ x
  pub aliases_are : a ≡ kept aliases_laid (length a₀) a₀ x
