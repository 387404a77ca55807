-- All that a call on envelopes leaves: its answer, its result and every lent table.
use Rattle.std.specs.Prelude.{ℕ, List, ◌≡◌, length}
use Rattle.outcome.specs.Outcome.{code_of}
use Rattle.wire.specs.Reading.{Step}
use Rattle.header.specs.Header.{Header}
use Rattle.header.specs.Beside.{Beside}
use Rattle.header.specs.Tables.{reported as reportedHeader, reported_texts, written as writtenHeader, field_table, column_table, alias_table}
use Rattle.moves.specs.Moves.{reported as reportedMoves}
use Rattle.footer.specs.Footer.{Footer}
use Rattle.footer.specs.Tables.{reported as reportedFooter, written as writtenFooter, cluster_table, metadata_table}
use Rattle.page_list.specs.Tables.{reported as reportedPageList, written as writtenPageList}
use Rattle.rows.specs.declared.PageRow.{PageRow}
use Rattle.answers.specs.Results.{header_result}
use Rattle.answers.specs.Handed.{given, HandsOver, Tells}

-- Headers: the places and lengths of name and description, and the counts of fields, columns and aliases.

pub record HeaderCall (x : Step Header) (f₀ f c₀ c a₀ a w₀ w : List ℕ) (r : ℕ) : Type 0 where
  pub hands_over : HandsOver 7 (code_of (reportedHeader (length f₀) (length c₀) (length a₀) x))
      (header_result (reported_texts (length f₀) (length c₀) (length a₀) x) (reportedHeader (length f₀) (length c₀) (length a₀) x)) w₀ w r
  pub fields_are : f ≡ given 7 w₀ (writtenHeader field_table (length f₀) (length c₀) (length a₀) f₀ x) f₀
  pub columns_are : c ≡ given 7 w₀ (writtenHeader column_table (length f₀) (length c₀) (length a₀) c₀ x) c₀
  pub aliases_are : a ≡ given 7 w₀ (writtenHeader alias_table (length f₀) (length c₀) (length a₀) a₀ x) a₀

-- Moves: their sum.
abbrev pub MovesCall : Step Header → List ℕ → List ℕ → ℕ → Type 0
MovesCall x w₀ w r = Tells 1 (reportedMoves x) w₀ w r

-- Footers: the counts of clusters and of metadata links.
pub record FooterCall (x : Beside Footer) (c₀ c m₀ m w₀ w : List ℕ) (r : ℕ) : Type 0 where
  pub hands_over : Tells 2 (reportedFooter (length c₀) (length m₀) x) w₀ w r
  pub clusters_are : c ≡ given 2 w₀ (writtenFooter cluster_table (length c₀) (length m₀) c₀ x) c₀
  pub metadata_are : m ≡ given 2 w₀ (writtenFooter metadata_table (length c₀) (length m₀) m₀ x) m₀

-- Page lists: the count of pages.
pub record PageListCall (x : Beside (List (List PageRow))) (p₀ p w₀ w : List ℕ) (r : ℕ) : Type 0 where
  pub hands_over : Tells 1 (reportedPageList (length p₀) x) w₀ w r
  pub pages_are : p ≡ given 1 w₀ (writtenPageList (length p₀) p₀ x) p₀
