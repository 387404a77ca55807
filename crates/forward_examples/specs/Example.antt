-- Demand 3 is about something: a header, a footer and a page list, and the same from a newer writer, which added bytes at the end of every frame and
-- of the payload, and to the footer the checksum of its page list; and the header with a field and a column appended. The checker computes what the
-- rules read in each, what the first build's rules read, and the listings of the headers.
use Rattle.std.specs.Prelude.{ℕ, ◌+◌, List, [], ◌∷◌, ◌++◌, map, true, false, ◌≡◌, length}
use Rattle.decimals.specs.Decimal.{text}
use Rattle.wire.specs.Reading.{found, fault}
use Rattle.wire.specs.declared.Kind.TheVariants.{Envelope, Number}
use Rattle.envelope.specs.Envelope.{checksum_of}
use Rattle.rows.specs.Words.{no_checksum}
use Rattle.rows.specs.declared.FieldTexts.{FieldTexts}
use Rattle.rows.specs.declared.FieldRow.{FieldRow}
use Rattle.rows.specs.declared.ColumnRow.{ColumnRow}
use Rattle.rows.specs.declared.AliasRow.{AliasRow}
use Rattle.rows.specs.declared.PageRow.{PageRow}
use Rattle.header.specs.Header.{Header}
use Rattle.header.specs.Tables.{header_of}
use Rattle.header.specs.Beside.{read, refusal}
use Rattle.listing.specs.Lines.{listing}
use Rattle.footer.specs.Footer.{Footer, first_build}
use Rattle.footer.specs.Tables.{beside_by_build, footer_beside}
use Rattle.page_list.specs.Tables.{page_list_beside}
use Rattle.pairing.specs.Paired.{paired_beside}
use Rattle.tree.specs.Shape.{Framed}
use Rattle.tree.specs.EnvelopeTree.{render_envelope}
use Rattle.tree.specs.HeaderTree.{FieldContent, HeaderTree, render_header}
use Rattle.tree.specs.FooterTree.{ClusterContent, LinkContent, footer_shape, FooterTree, render_footer}
use Rattle.tree.specs.PageListTree.{PageContent, PageListTree, render_page_list}
use Rattle.forward.specs.HeaderForward.{ChosenHeader}
use Rattle.forward.specs.ReadersForward.{ChosenFooter, ChosenPageList}
use Rattle.forward.specs.HeaderAppend.{appended, Appendix}

-- The header: a field "a" at the top, "b" below it with the alias flag; a column of 64 bits on "a", one of an unknown type with 5 bits on "b"; an
-- alias of the first column to "b".

-- a field whose name is one character, with this parent and these flags
abbrev pub example_field : ℕ → ℕ → ℕ → FieldContent
example_field character parent flags =
    record {
      head = record { field_version = 1; type_version = 2; parent = record { 0 = parent }; role = 0; flags = flags; repetition = 0 };
      texts = record { name = character ∷ []; type_name = []; type_alias = []; description = [] };
    }

abbrev pub example_fields : List FieldContent
example_fields = example_field 97 0 0 ∷ example_field 98 0 2 ∷ []

abbrev pub example_columns : List ColumnRow
example_columns =
    record { column_type = 1; bits = 64; field = record { 0 = 0 }; flags = 0 }
    ∷ record { column_type = 99; bits = 5; field = record { 0 = 1 }; flags = 0 } ∷ []

abbrev pub example_aliases : List AliasRow
example_aliases = record { column = record { 0 = 0 }; field = record { 0 = 1 } } ∷ []

-- a frame with these spare bytes
abbrev pub framed_with : {T : Type 0} → List ℕ → T → Framed T
framed_with spare t = record { inside = t; spare = spare }

-- a list frame of frames, each with these spare bytes
abbrev pub frames_with : {T : Type 0} → List ℕ → List T → Framed (List (Framed T))
frames_with spare ts = framed_with spare (map (framed_with spare) ts)

-- a header of this version, with these spare bytes at the end of every frame and of the payload
abbrev pub example_header : ℕ → List ℕ → HeaderTree
example_header version spare =
    record {
      version = version;
      minimum = 1;
      inside = record {
        words = 0;
        name = 110 ∷ [];
        description = 100 ∷ [];
        fields = frames_with spare example_fields;
        columns = frames_with spare example_columns;
        aliases = frames_with spare example_aliases;
      };
      spare = spare;
    }

-- the bytes that the newer writer adds at each end
abbrev pub added_bytes : List ℕ
added_bytes = 7 ∷ 255 ∷ []

abbrev pub plain_header : HeaderTree
plain_header = example_header 1 []

abbrev pub newer_header : HeaderTree
newer_header = example_header 2 added_bytes

-- what is appended: a field "c" at the top, and a column on it
abbrev pub appended_fields : List (Framed FieldContent)
appended_fields = framed_with [] (example_field 99 2 0) ∷ []

abbrev pub appended_columns : List (Framed ColumnRow)
appended_columns = framed_with [] (record { column_type = 1; bits = 64; field = record { 0 = 2 }; flags = 0 }) ∷ []

abbrev pub appended_header : HeaderTree
appended_header = appended plain_header appended_fields appended_columns

-- The footer: one cluster with three entries, one metadata link.

-- the checksums of the two headers, and of the newer page list below

abbrev pub plain_checksum : ℕ
plain_checksum = 1832856367

abbrev pub newer_checksum : ℕ
newer_checksum = 1226907833

abbrev pub list_checksum : ℕ
list_checksum = 2750808053

abbrev pub cluster_with : ℕ → ClusterContent
cluster_with checksum = record { first = 0; entries = 3; link = record { size = 40; stored = 40; offset = 100 }; checksum = checksum }

abbrev pub example_links : List LinkContent
example_links = record { size = 7; stored = 7; offset = 0 } ∷ []

-- a footer of this version, beside a header with this checksum, with that of its page list, and with these spare bytes at the end of every frame and
-- of the payload
abbrev pub example_footer : ℕ → ℕ → ℕ → List ℕ → FooterTree
example_footer version checksum of_list spare =
    record {
      version = version;
      minimum = 1;
      inside = record {
        words = 0;
        checksum = checksum;
        extensions = framed_with spare [];
        groups = framed_with spare [];
        clusters = frames_with spare (cluster_with of_list ∷ []);
        metadata = framed_with spare example_links;
      };
      spare = spare;
    }

abbrev pub plain_footer : FooterTree
plain_footer = example_footer 1 plain_checksum no_checksum []

abbrev pub newer_footer : FooterTree
newer_footer = example_footer 2 newer_checksum list_checksum added_bytes

-- and by a writer that is newer still, with more bytes behind the checksum
abbrev pub later_footer : FooterTree
later_footer = example_footer 3 newer_checksum list_checksum (added_bytes ++ added_bytes)

-- the plain footer's bytes, but for their version, which is 2: the checksum is missing
abbrev pub unchecked_footer : List ℕ
unchecked_footer = render_envelope (λ _. footer_shape false 0 0) (example_footer 2 plain_checksum no_checksum [])

-- The page list: three elements of the first column in one page, and of the second in one with a checksum.

abbrev pub example_pages : List (List PageContent)
example_pages = (record { word = 3; size = 24; offset = 50 } ∷ []) ∷ (record { word = 1073741827; size = 2; offset = 74 } ∷ []) ∷ []

abbrev pub example_page_list : ℕ → List ℕ → PageListTree
example_page_list version spare =
    record {
      version = version;
      minimum = 1;
      inside = frames_with spare example_pages;
      spare = spare;
    }

abbrev pub plain_page_list : PageListTree
plain_page_list = example_page_list 1 []

abbrev pub newer_page_list : PageListTree
newer_page_list = example_page_list 2 added_bytes

-- What is read.

-- the strings of such a field whose record stands at a place
abbrev pub texts_at : ℕ → FieldTexts
texts_at p =
    record {
      name = record { place = p + 24; len = 1 };
      type_name = record { place = p + 29; len = 0 };
      type_alias = record { place = p + 33; len = 0 };
      description = record { place = p + 37; len = 0 };
    }

-- rows of such fields, whose records stand at these places
abbrev pub rows_at : List ℕ → List FieldContent → List FieldRow
rows_at [] cs = []
rows_at (p ∷ ps) [] = []
rows_at (p ∷ ps) (c ∷ cs) = record { head = c.head; texts = texts_at p } ∷ rows_at ps cs

-- the header that is read where the records of its fields stand at these places, and the other lists at those
abbrev pub read_as : List ℕ → List FieldContent → ℕ → List ColumnRow → ℕ → Header
read_as places fields columnsPlace columns aliasesPlace =
    record {
      texts = record { name = record { place = 16; len = 1 }; description = record { place = 21; len = 1 } };
      lists = record {
        fields_at = 22;
        fields = rows_at places fields;
        columns_at = columnsPlace;
        columns = columns;
        aliases_at = aliasesPlace;
        aliases = example_aliases;
      };
    }

abbrev pub plain_read : Header
plain_read = read_as (30 ∷ 67 ∷ []) example_fields 104 example_columns 144

-- in the newer header the second field's strings and the two lists after the fields stand elsewhere
abbrev pub newer_read : Header
newer_read = read_as (30 ∷ 69 ∷ []) example_fields 110 example_columns 156

abbrev pub appended_read : Header
appended_read = read_as (30 ∷ 67 ∷ 104 ∷ []) (example_fields ++ map (λ (f : Framed FieldContent). f.inside) appended_fields) 141 (example_columns ++ map (λ (c : Framed ColumnRow). c.inside) appended_columns) 197

abbrev pub footer_read : ℕ → Footer
footer_read checksum =
    record {
      clusters = record { first_entry = 0; entries = 3; page_list = record { size = 40; offset = 100 }; checksum = checksum } ∷ [];
      metadata = record { size = 7; offset = 0 } ∷ [];
    }

abbrev pub pages_read : List (List PageRow)
pages_read =
    (record { column = record { 0 = 0 }; elements = 3; checksum = false; size = 24; offset = 50 } ∷ [])
    ∷ (record { column = record { 0 = 1 }; elements = 3; checksum = true; size = 2; offset = 74 } ∷ []) ∷ []

-- each newer envelope is an extension, longer by two bytes for each frame and the payload, and a footer by the checksum; the rules accept all, and
-- read the same, but for the checksum that the footer got
pub record Extensible : Type 0 where
  pub header : ChosenHeader plain_header newer_header
  pub header_bytes : length (render_header plain_header) ≡ 168
  pub newer_header_bytes : length (render_header newer_header) ≡ 186
  pub header_reads : header_of (render_header plain_header) ≡ found plain_read 164
  pub newer_header_reads : header_of (render_header newer_header) ≡ found newer_read 182
  pub header_sum : checksum_of (render_header plain_header) ≡ plain_checksum
  pub newer_header_sum : checksum_of (render_header newer_header) ≡ newer_checksum
  pub footer : ChosenFooter (checksum_of (render_header newer_header)) plain_footer newer_footer
  pub footer_bytes : length (render_footer plain_footer) ≡ 104
  pub newer_footer_bytes : length (render_footer newer_footer) ≡ 120
  pub footer_reads : footer_beside (render_header plain_header) (render_footer plain_footer) 140 ≡ read (footer_read no_checksum)
  pub newer_footer_reads : footer_beside (render_header newer_header) (render_footer newer_footer) 140 ≡ read (footer_read list_checksum)
  pub page_list : ChosenPageList plain_page_list newer_page_list
  pub page_list_bytes : length (render_page_list plain_page_list) ≡ 64
  pub newer_page_list_bytes : length (render_page_list newer_page_list) ≡ 72
  pub page_list_reads : page_list_beside (render_header plain_header) (render_page_list plain_page_list) 3 80 ≡ read pages_read
  pub newer_page_list_reads : page_list_beside (render_header newer_header) (render_page_list newer_page_list) 3 80 ≡ read pages_read

-- The newer footer was raised: the first build reads its old row in it, as in the plain one. Its extension by more bytes says the same. Where the
-- checksum is missing, 7 is given at the place after the link.
pub record Raised : Type 0 where
  pub plain_old : beside_by_build first_build (render_header plain_header) (render_footer plain_footer) 140 ≡ read (footer_read no_checksum)
  pub newer_old : beside_by_build first_build (render_header newer_header) (render_footer newer_footer) 140 ≡ read (footer_read no_checksum)
  pub later : ChosenFooter (checksum_of (render_header newer_header)) newer_footer later_footer
  pub later_reads : footer_beside (render_header newer_header) (render_footer later_footer) 140 ≡ read (footer_read list_checksum)
  pub missing : footer_beside (render_header plain_header) unchecked_footer 140 ≡ refusal 2 (record { number = 7; place = 76; kind = Number; list = 32; item = 0 })

-- The newer page list is the one that the newer footer's row means. The plain one has the same counts, and its reader accepts it, but it is not.
pub record Paired : Type 0 where
  pub its : checksum_of (render_page_list newer_page_list) ≡ list_checksum
  pub paired : paired_beside (render_header newer_header) (render_page_list newer_page_list) 3 list_checksum 80 ≡ read pages_read
  pub alone : page_list_beside (render_header newer_header) (render_page_list plain_page_list) 3 80 ≡ read pages_read
  pub stale : paired_beside (render_header newer_header) (render_page_list plain_page_list) 3 list_checksum 80 ≡ refusal 3 (fault 26 Envelope 0)

-- the field and the column may be appended; the rules accept the header with them
pub record Appendable : Type 0 where
  pub appendix : Appendix plain_header appended_fields appended_columns
  pub appended_reads : header_of (render_header appended_header) ≡ found appended_read 217

-- What is listed. Both fields are dark, as the column of an unknown type hangs on "b", below "a"; "c" is not. The name of each field's type is empty:
-- two spaces stand before the word "dark", and one ends the last line.

abbrev pub plain_lines : List ℕ
plain_lines = text "0 a  dark\n  1 b  dark\n"

abbrev pub more_lines : List ℕ
more_lines = text "0 a  dark\n  1 b  dark\n2 c \n"

-- the newer header, in which the names stand elsewhere, has the same listing; with the appended field there is one line more
pub record Listable : Type 0 where
  pub plain : listing (render_header plain_header) plain_read.lists ≡ plain_lines
  pub newer : listing (render_header newer_header) newer_read.lists ≡ plain_lines
  pub more : listing (render_header appended_header) appended_read.lists ≡ more_lines
