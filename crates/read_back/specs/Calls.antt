-- What a call has written is accepted by the reader's call, with the same other arguments and with room for the rows, and gives the tables back:
-- strings by their characters, dark marks and repetitions without their flag aside.
use Rattle.std.specs.Prelude.{ℕ, ◌≤◌, List, map, ◌≡◌, take, Ok}
use Rattle.rows.specs.Words.{field_width, column_width, alias_width, cluster_width, link_width, page_width}
use Rattle.rows.specs.Tables.{rows_in, field_row, column_row, alias_row, cluster_row, link_row, page_row, first_rows}
use Rattle.records.specs.declared.HeaderTexts.{HeaderTexts}
use Rattle.header.specs.Tables.{header_of, Answered as HeaderRead}
use Rattle.header.specs.declared.HeaderTables.{HeaderTables}
use Rattle.header.specs.Answer.{HeaderAnswer}
use Rattle.footer.specs.Tables.{footer_beside, Answered as FooterRead}
use Rattle.footer.specs.Answer.{FooterAnswer}
use Rattle.page_list.specs.Tables.{page_list_beside, Answered as PageListRead}
use Rattle.page_list.specs.Answer.{PageListAnswer}
use Rattle.tree.specs.Shape.{chars}
use Rattle.tree.specs.HeaderTree.{field_content}
use Rattle.writing.specs.Rows.{all_rows, page_rows_in}
use Rattle.writing.specs.Header.{field_says}
use Rattle.writing.specs.PageList.{page_says}
use Rattle.writing.specs.Answers.{header_to_write, footer_to_write, page_list_to_write, Answered}

-- the reader's call for the header e answered r and left the tables f, c and a
pub record HeaderBack (strings : List ℕ) (texts : HeaderTexts) (fields columns aliases e f c a : List ℕ) (r : HeaderAnswer) : Type 0 where
  pub tables : HeaderTables
  pub accepts : r ≡ Ok tables
  pub field_count : tables.fields ≡ rows_in field_width fields
  pub column_count : tables.columns ≡ rows_in column_width columns
  pub alias_count : tables.aliases ≡ rows_in alias_width aliases
  pub name : chars e tables.texts.name ≡ chars strings texts.name
  pub description : chars e tables.texts.description ≡ chars strings texts.description
  pub fields_are : map (field_content e) (first_rows field_row f tables.fields) ≡ map (field_says strings) (all_rows field_row field_width fields)
  pub columns_are : first_rows column_row c tables.columns ≡ all_rows column_row column_width columns
  pub aliases_are : first_rows alias_row a tables.aliases ≡ all_rows alias_row alias_width aliases

unfoldable pub HeaderReadBack : Type 0
HeaderReadBack =
    (strings : List ℕ) (texts : HeaderTexts) (fields columns aliases out₀ out : List ℕ) (n : ℕ) → Answered 1 (header_to_write strings texts fields columns aliases) out₀ out (Ok n)
    → (f₀ f c₀ c a₀ a : List ℕ) (r : HeaderAnswer) → HeaderRead (header_of (take n out)) f₀ f c₀ c a₀ a r → rows_in field_width fields ≤ rows_in field_width f₀
    → rows_in column_width columns ≤ rows_in column_width c₀ → rows_in alias_width aliases ≤ rows_in alias_width a₀
    → HeaderBack strings texts fields columns aliases (take n out) f c a r

pub record FooterBack (clusters metadata c m : List ℕ) (r : FooterAnswer) : Type 0 where
  pub accepts : r ≡ Ok (record { clusters = rows_in cluster_width clusters; metadata = rows_in link_width metadata })
  pub clusters_are : first_rows cluster_row c (rows_in cluster_width clusters) ≡ all_rows cluster_row cluster_width clusters
  pub metadata_are : first_rows link_row m (rows_in link_width metadata) ≡ all_rows link_row link_width metadata

unfoldable pub FooterReadBack : Type 0
FooterReadBack =
    (header : List ℕ) (file : ℕ) (clusters metadata out₀ out : List ℕ) (n : ℕ) → Answered 2 (footer_to_write header file clusters metadata) out₀ out (Ok n)
    → (c₀ c m₀ m : List ℕ) (r : FooterAnswer) → FooterRead (footer_beside header (take n out) file) c₀ c m₀ m r → rows_in cluster_width clusters ≤ rows_in cluster_width c₀
    → rows_in link_width metadata ≤ rows_in link_width m₀ → FooterBack clusters metadata c m r

pub record PageListBack (pages p : List ℕ) (r : PageListAnswer) : Type 0 where
  pub accepts : r ≡ Ok (rows_in page_width pages)
  pub pages_are : first_rows page_row p (rows_in page_width pages) ≡ map page_says (page_rows_in pages)

unfoldable pub PageListReadBack : Type 0
PageListReadBack =
    (header : List ℕ) (entries file : ℕ) (pages out₀ out : List ℕ) (n : ℕ) → Answered 3 (page_list_to_write header entries file pages) out₀ out (Ok n)
    → (p₀ p : List ℕ) (r : PageListAnswer) → PageListRead (page_list_beside header (take n out) entries file) p₀ p r → rows_in page_width pages ≤ rows_in page_width p₀
    → PageListBack pages p r
