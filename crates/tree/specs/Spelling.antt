-- One header, one spelling; and the standard spelling of the tables of each envelope: version 1 (a footer with the checksums of its page
-- lists: 2), minimum 1, one zero feature word (a page list has none), no spare bytes.
use Rattle.std.specs.Prelude.{ℕ, ◌+◌, ◌*◌, ◌^◌, ◌≤◌, List, [], ◌∷◌, map, ◌≡◌, length, eqb}
use Rattle.numbers.specs.Choice.{pick}
use Rattle.numbers.specs.Numbers.{little}
use Rattle.wire.specs.Reading.{found}
use Rattle.header.specs.Header.{Header}
use Rattle.header.specs.Tables.{header_of}
use Rattle.rows.specs.Words.{bit, no_checksum}
use Rattle.footer.specs.Footer.{Footer, footer_of}
use Rattle.rows.specs.declared.Link.{Link}
use Rattle.rows.specs.declared.ClusterRow.{ClusterRow}
use Rattle.page_list.specs.PageList.{page_list_of}
use Rattle.rows.specs.declared.PageRow.{PageRow}
use Rattle.tree.specs.Bytes.{Bytes}
use Rattle.tree.specs.Shape.{Framed}
use Rattle.tree.specs.HeaderTree.{HeaderContent, header_content, Frames, HeaderTree, render_header}
use Rattle.tree.specs.FooterTree.{LinkContent, ClusterContent, FooterTree, render_footer}
use Rattle.tree.specs.PageListTree.{PageContent, PageListTree, render_page_list}

-- Headers.

-- version 1, minimum 1, and a single feature word
pub record Standard (e : List ℕ) : Type 0 where
  pub version : little 2 e 0 ≡ 1
  pub minimum : little 2 e 2 ≡ 1
  pub single : little 8 e 4 ≡ 0

-- two accepted standard headers have equal tables exactly when their bytes are equal
abbrev pub OneSpelling : Type 0
OneSpelling =
    (e e' : List ℕ) (h h' : Header) (q q' : ℕ) → Bytes e → Bytes e' → header_of e ≡ found h q → header_of e' ≡ found h' q' → Standard e → Standard e'
    → ((header_content e h ≡ header_content e' h') → (e ≡ e')) × ((e ≡ e') → (header_content e h ≡ header_content e' h'))

-- record frames without spare bytes
abbrev pub plain_frames : {C : Type 0} → List C → Frames C
plain_frames {C} cs = record { inside = map (λ (c : C). record { inside = c; spare = [] }) cs; spare = [] }

-- the tree of tables in the standard spelling: version 1, minimum 1, one zero feature word, no spare bytes
unfoldable pub standard : HeaderContent → HeaderTree
standard c =
    record {
      version = 1;
      minimum = 1;
      inside = record {
        words = 0;
        name = c.name;
        description = c.description;
        fields = plain_frames c.fields;
        columns = plain_frames c.columns;
        aliases = plain_frames c.aliases;
      };
      spare = [];
    }

-- the standard spelling of the tables of h in e is accepted, gives the tables back, and is no longer than e
pub record Respelled (e : List ℕ) (h : Header) : Type 0 where
  pub header : Header
  pub place : ℕ
  pub reads : header_of (render_header (standard (header_content e h))) ≡ found header place
  pub same : header_content (render_header (standard (header_content e h))) header ≡ header_content e h
  pub shorter : length (render_header (standard (header_content e h))) ≤ length e

-- it does so for any accepted header
abbrev pub Respelling : Type 0
Respelling = (e : List ℕ) (h : Header) (q : ℕ) → Bytes e → header_of e ≡ found h q → Respelled e h

-- Footers.

-- the contents that rows are written as

abbrev pub link_of : Link → LinkContent
link_of l = record { size = l.size; stored = l.size; offset = l.offset }

abbrev pub cluster_of : ClusterRow → ClusterContent
cluster_of r = record { first = r.first_entry; entries = r.entries; link = link_of r.page_list; checksum = r.checksum }

-- the version that clusters are written with: 2 where they have the checksums of their page lists. (All or none have, in a footer that is
-- read, so the first one tells.)
abbrev pub footer_version : List ClusterRow → ℕ
footer_version [] = 1
footer_version (c ∷ cs) = pick (eqb c.checksum no_checksum) 1 2

-- the tree of tables beside a header with this checksum, in the standard spelling
unfoldable pub standard_footer : ℕ → Footer → FooterTree
standard_footer checksum f =
    record {
      version = footer_version f.clusters;
      minimum = 1;
      inside = record {
        words = 0;
        checksum = checksum;
        extensions = record { inside = []; spare = [] };
        groups = record { inside = []; spare = [] };
        clusters = plain_frames (map cluster_of f.clusters);
        metadata = record { inside = map link_of f.metadata; spare = [] };
      };
      spare = [];
    }

-- the standard spelling of an accepted footer's tables is accepted, gives the tables back, and is no longer
abbrev pub FooterRespelling : Type 0
FooterRespelling =
    (checksum file : ℕ) (f : List ℕ) (g : Footer) (p : ℕ) → Bytes f → footer_of checksum file f ≡ found g p
    → (q : ℕ) × (footer_of checksum file (render_footer (standard_footer checksum g)) ≡ found g q) × (length (render_footer (standard_footer checksum g)) ≤ length f)

-- Page lists.

-- the content that a row is written as
abbrev pub page_of : PageRow → PageContent
page_of r = record { word = r.elements + 2 ^ 30 * bit r.checksum; size = r.size; offset = r.offset }

-- the pages of a column, without spare bytes
abbrev pub plain_pages : List PageRow → Framed (List PageContent)
plain_pages ps = record { inside = map page_of ps; spare = [] }

-- the tree of the pages of each column, in the standard spelling
unfoldable pub standard_page_list : List (List PageRow) → PageListTree
standard_page_list pss = record { version = 1; minimum = 1; inside = record { inside = map plain_pages pss; spare = [] }; spare = [] }

-- the standard spelling of an accepted page list's table is accepted, gives the table back, and is no longer
abbrev pub PageListRespelling : Type 0
PageListRespelling =
    (h : Header) (entries file : ℕ) (l : List ℕ) (pss : List (List PageRow)) (p : ℕ) → Bytes l → page_list_of h entries file l ≡ found pss p
    → (q : ℕ) × (page_list_of h entries file (render_page_list (standard_page_list pss)) ≡ found pss q) × (length (render_page_list (standard_page_list pss)) ≤ length l)
