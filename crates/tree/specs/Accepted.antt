-- Which calls are accepted: exactly those whose bytes are the renderings of trees that keep the rules, and whose lent tables have room for the
-- trees' rows. Over what the contracts of the three readers say that a call leaves.
use Rattle.std.specs.Prelude.{ℕ, ◌/◌, ◌≤◌, List, [], ◌∷◌, map, true, ◌≡◌, length}
use Rattle.outcome.specs.Outcome.{Outcome, accepted_with, is_accepted}
use Rattle.rows.specs.Words.{field_width, column_width, alias_width, cluster_width, link_width, page_width}
use Rattle.envelope.specs.Envelope.{ceiling, checksum_of}
use Rattle.header.specs.Tables.{header_of, outcome_of, Answered}
use Rattle.header.specs.Answer.{HeaderAnswer}
use Rattle.footer.specs.Tables.{footer_beside, outcome_of as footerOutcome, Answered as AnsweredFooter}
use Rattle.footer.specs.Answer.{FooterAnswer}
use Rattle.column_pages.specs.ColumnPages.{bits_of}
use Rattle.pages.specs.Pages.{elements_of}
use Rattle.totals.specs.Totals.{totals}
use Rattle.std.specs.Prelude.{Option, None}
use Rattle.rows.specs.declared.FieldNumber.{FieldNumber}
use Rattle.rows.specs.declared.PageRow.{PageRow}
use Rattle.page_list.specs.Tables.{page_list_beside, outcome_of as pageListOutcome, Answered as AnsweredPages}
use Rattle.page_list.specs.Answer.{PageListAnswer}
use Rattle.tree.specs.Bytes.{Bytes}
use Rattle.tree.specs.HeaderTree.{FieldContent, HeaderContent, HeaderTree, render_header, tables_of, RightHeader}
use Rattle.tree.specs.FooterTree.{FooterContent, footer_carrier, FooterTree, render_footer, RightFooter}
use Rattle.tree.specs.PageListTree.{page_list_carrier, pages_in, page_rows, PageListTree, render_page_list, RightPageList}

-- an outcome is an acceptance exactly where there is such a G, and then with the counts that this gives
pub record Exactly (G : Type 0) (counts : G → List ℕ) (o : Outcome) : Type 0 where
  pub only : is_accepted o ≡ true → G
  pub always : (g : G) → o ≡ accepted_with (counts g)

-- Headers.

-- the bytes e are the rendering of a header's tree that keeps the rules
pub record HeaderWritten (e : List ℕ) : Type 0 where
  pub tree : HeaderTree
  pub right : RightHeader tree
  pub bytes : render_header tree ≡ e

-- and tables of f, c and a words have room for its rows
pub record HeaderFits (e : List ℕ) (f c a : ℕ) : Type 0 where
  pub header : HeaderWritten e
  pub fields_fit : length (tables_of header.tree).fields ≤ f / field_width
  pub columns_fit : length (tables_of header.tree).columns ≤ c / column_width
  pub aliases_fit : length (tables_of header.tree).aliases ≤ a / alias_width

abbrev pub header_counts : {e : List ℕ} {f c a : ℕ} → HeaderFits e f c a → List ℕ
header_counts g =
    let t = tables_of g.header.tree in
    length t.fields ∷ length t.columns ∷ length t.aliases ∷ []

unfoldable pub HeaderAccepted : Type 0
HeaderAccepted =
    (e f₀ f c₀ c a₀ a : List ℕ) (r : HeaderAnswer) → Bytes e → Answered (header_of e) f₀ f c₀ c a₀ a r
    → Exactly (HeaderFits e (length f₀) (length c₀) (length a₀)) header_counts (outcome_of r)

-- Footers, each beside a header, whose tables need no room.

-- what a footer's tree says
abbrev pub said_by : FooterTree → FooterContent
said_by t = footer_carrier.content t.inside

pub record FooterFits (e g : List ℕ) (file c m : ℕ) : Type 0 where
  pub header : HeaderWritten e
  pub tree : FooterTree
  pub right : RightFooter (checksum_of e) file tree
  pub bytes : render_footer tree ≡ g
  pub small : length g ≤ ceiling
  pub clusters_fit : length (said_by tree).clusters ≤ c / cluster_width
  pub metadata_fit : length (said_by tree).metadata ≤ m / link_width

abbrev pub footer_counts : {e g : List ℕ} {file c m : ℕ} → FooterFits e g file c m → List ℕ
footer_counts f = length (said_by f.tree).clusters ∷ length (said_by f.tree).metadata ∷ []

unfoldable pub FooterAccepted : Type 0
FooterAccepted =
    (e g : List ℕ) (file : ℕ) (c₀ c m₀ m : List ℕ) (r : FooterAnswer) → Bytes e → Bytes g → AnsweredFooter (footer_beside e g file) c₀ c m₀ m r
    → Exactly (FooterFits e g file (length c₀) (length m₀)) footer_counts (footerOutcome r)

-- Page lists, each beside a header.

-- what the totals say of pages beside what a header's tree says; they look only at numbers
abbrev pub totals_in : ℕ → List (List PageRow) → HeaderContent → Option FieldNumber
totals_in entries pss c =
    totals entries c.columns (map elements_of pss) 0 (map (λ (f : FieldContent). f.head.parent.0) c.fields) (map (λ (f : FieldContent). f.head.flags) c.fields)

pub record PageListFits (e l : List ℕ) (entries file p : ℕ) : Type 0 where
  pub header : HeaderWritten e
  pub tree : PageListTree
  pub right : RightPageList file (bits_of (tables_of header.tree).columns) tree
  pub bytes : render_page_list tree ≡ l
  pub small : length l ≤ ceiling
  pub agree : totals_in entries (page_rows 0 (page_list_carrier.content tree.inside)) (tables_of header.tree) ≡ None
  pub pages_fit : pages_in (page_list_carrier.content tree.inside) ≤ p / page_width

abbrev pub page_list_counts : {e l : List ℕ} {entries file p : ℕ} → PageListFits e l entries file p → List ℕ
page_list_counts g = pages_in (page_list_carrier.content g.tree.inside) ∷ []

unfoldable pub PageListAccepted : Type 0
PageListAccepted =
    (e l : List ℕ) (entries file : ℕ) (p₀ p : List ℕ) (r : PageListAnswer) → Bytes e → Bytes l → AnsweredPages (page_list_beside e l entries file) p₀ p r
    → Exactly (PageListFits e l entries file (length p₀)) page_list_counts (pageListOutcome r)
