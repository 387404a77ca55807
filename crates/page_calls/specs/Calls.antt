-- All that a call on pages leaves: its answer, its result and the lent page or elements.
use Rattle.std.specs.Prelude.{ℕ, List, ◌≡◌, length}
use Rattle.page_rules.specs.Page.{asks, encode_outcome, encoded}
use Rattle.column_rules.specs.Column.{whole_column}
use Rattle.answers.specs.Handed.{given, Tells}

-- Encoding: how many bytes were written.
pub record EncodeCall (t n checksum : ℕ) (words : List ℕ) (start : ℕ) (p₀ p w₀ w : List ℕ) (r : ℕ) : Type 0 where
  pub hands_over : Tells 1 (encode_outcome t n (asks checksum) words start (length p₀)) w₀ w r
  pub page_is : p ≡ given 1 w₀ (encoded t n (asks checksum) words start p₀) p₀

-- Decoding a column: the index of the refused page, else the number of pages. Where a page is refused, the words have what was decoded before it.
pub record ColumnCall (t : ℕ) (table file o₀ o w₀ w : List ℕ) (r : ℕ) : Type 0 where
  pub hands_over : Tells 1 (whole_column t file table o₀).outcome w₀ w r
  pub words_are : o ≡ given 1 w₀ (whole_column t file table o₀).words o₀
