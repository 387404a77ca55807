-- The rules of reading, run on bytes that another program wrote: document 01's smallest header, footer and page list; a header with a field
-- and a column, a footer with a cluster and a metadata link, a page list with a page.
use Prim.Native.Nat.{ℕ}
use mathlib.Core.List.{List, [], ◌∷◌}
use mathlib.Core.Bool.{false}
use mathlib.Core.Path.{◌≡◌, refl}
use Rattle.numbers.specs.Numbers.{little}
use Rattle.checksum.specs.Crc.{shifted, bits, byte, fold, crc32}
use Rattle.wire.specs.Reading.{found, refused, number, judged, in_item}
use Rattle.text.specs.Strings.{string_of}
use Rattle.utf8.specs.WellFormed.{due, goes_on, well_formed}
use Rattle.frames.specs.Frames.{record_of, list_of, items, frame_size, record_head, list_stop, count_judged}
use Rattle.envelope.specs.Envelope.{versioned, opened, checksum_of}
use Rattle.wire.specs.declared.Kind.TheVariants.{Number, Total}
use Rattle.column_type.specs.Types.{known, width_of, widths}
use Rattle.envelope.specs.Features.{features}
use Rattle.header.specs.Header.{Header, columns_after, aliases_after, lists, payload}
use Rattle.records.specs.Records.{repetition, field_head, field_texts, field, column, alias, texts}
use Rattle.parents.specs.Parents.{meets, all_reach}
use Rattle.header.specs.Tables.{header_of, chained}
use Rattle.links.specs.Links.{link}
use Rattle.clusters.specs.Clusters.{list_checksum, cluster, entries_of}
use Rattle.rows.specs.Words.{no_checksum}
use Rattle.footer.specs.Footer.{footer_by_build, footer_of, payload as footer-payload}
use Rattle.page_list.specs.PageList.{page_list_of, summed}
use Rattle.pages.specs.Pages.{pages, page, elements_of}
use Rattle.totals.specs.Totals.{totals, total_of}
use Rattle.column_pages.specs.ColumnPages.{pages_of, payload as page-payload}
use Rattle.tree.specs.Bytes.{spelled}
use Rattle.tree.specs.EnvelopeTree.{unsummed, sealed}
use Rattle.tree.specs.HeaderTree.{feature_words, texts_shape, lists_shape, payload_shape, head_shape, strings_shape, field_shape, column_shape, render_header}
use Rattle.tree.specs.FooterTree.{FooterTree, footer_shape, cluster_shape, link_shape, render_footer}
use Rattle.tree.specs.PageListTree.{PageListTree, page_list_shape, pages_shape, page_shape, render_page_list}
use Rattle.forward_examples.proofs.Samples.{smallest, with_field}

-- headers

abbrev pub smallest_header_lem : List ℕ
smallest_header_lem =
    1 ∷ 0 ∷ 1 ∷ 0 ∷ 0 ∷ 0 ∷ 0 ∷ 0 ∷ 0 ∷ 0 ∷ 0 ∷ 0 ∷ 0 ∷ 0 ∷ 0 ∷ 0 ∷ 0 ∷ 0 ∷ 0 ∷ 0 ∷ 248 ∷ 255 ∷ 255 ∷ 255 ∷ 0 ∷ 0 ∷ 0 ∷ 0 ∷ 248 ∷
    255 ∷ 255 ∷ 255 ∷ 0 ∷ 0 ∷ 0 ∷ 0 ∷ 248 ∷ 255 ∷ 255 ∷ 255 ∷ 0 ∷ 0 ∷ 0 ∷ 0 ∷ 104 ∷ 189 ∷ 182 ∷ 27 ∷ []

abbrev pub small : Header
small =
    record {
      texts = record { name = record { place = 16; len = 0 }; description = record { place = 20; len = 0 } };
      lists = record { fields_at = 20; fields = []; columns_at = 28; columns = []; aliases_at = 36; aliases = [] };
    }

pub smallest_header_read : header_of smallest_header_lem ≡ found small 44
unfolding versioned opened record_of list_of items number judged string_of well_formed goes_on due frame_size record_head list_stop count_judged little crc32 fold byte bits shifted features header_of chained payload texts lists columns_after aliases_after repetition field_head field_texts field column alias known width_of widths all_reach meets
smallest_header_read = refl

pub smallest_header_rendered : render_header smallest ≡ smallest_header_lem
unfolding sealed unsummed payload_shape texts_shape lists_shape feature_words spelled crc32 fold byte bits shifted
smallest_header_rendered = refl

abbrev pub field_header : List ℕ
field_header =
    1 ∷ 0 ∷ 1 ∷ 0 ∷ 0 ∷ 0 ∷ 0 ∷ 0 ∷ 0 ∷ 0 ∷ 0 ∷ 0 ∷ 0 ∷ 0 ∷ 0 ∷ 0 ∷ 0 ∷ 0 ∷ 0 ∷ 0 ∷ 211 ∷ 255 ∷ 255 ∷ 255 ∷ 1 ∷ 0 ∷ 0 ∷ 0 ∷ 37 ∷
    0 ∷ 0 ∷ 0 ∷ 0 ∷ 0 ∷ 0 ∷ 0 ∷ 0 ∷ 0 ∷ 0 ∷ 0 ∷ 0 ∷ 0 ∷ 0 ∷ 0 ∷ 0 ∷ 0 ∷ 0 ∷ 0 ∷ 1 ∷ 0 ∷ 0 ∷ 0 ∷ 97 ∷ 0 ∷ 0 ∷ 0 ∷ 0 ∷ 0 ∷ 0 ∷ 0 ∷
    0 ∷ 0 ∷ 0 ∷ 0 ∷ 0 ∷ 232 ∷ 255 ∷ 255 ∷ 255 ∷ 1 ∷ 0 ∷ 0 ∷ 0 ∷ 16 ∷ 0 ∷ 0 ∷ 0 ∷ 1 ∷ 0 ∷ 64 ∷ 0 ∷ 0 ∷ 0 ∷ 0 ∷ 0 ∷ 0 ∷ 0 ∷ 0 ∷ 0 ∷
    248 ∷ 255 ∷ 255 ∷ 255 ∷ 0 ∷ 0 ∷ 0 ∷ 0 ∷ 169 ∷ 228 ∷ 198 ∷ 166 ∷ []

abbrev pub one : Header
one =
    record {
      texts = record { name = record { place = 16; len = 0 }; description = record { place = 20; len = 0 } };
      lists = record {
        fields_at = 20;
        fields =
            record {
              head = record { field_version = 0; type_version = 0; parent = record { 0 = 0 }; role = 0; flags = 0; repetition = 0 };
              texts = record {
                name = record { place = 52; len = 1 };
                type_name = record { place = 57; len = 0 };
                type_alias = record { place = 61; len = 0 };
                description = record { place = 65; len = 0 };
              };
            } ∷ [];
        columns_at = 65;
        columns = record { column_type = 1; bits = 64; field = record { 0 = 0 }; flags = 0 } ∷ [];
        aliases_at = 89;
        aliases = [];
      };
    }

pub field_header_read : header_of field_header ≡ found one 97
unfolding versioned opened record_of list_of items number judged string_of well_formed goes_on due frame_size record_head list_stop count_judged little crc32 fold byte bits shifted features header_of chained payload texts lists columns_after aliases_after repetition field_head field_texts field column alias known width_of widths all_reach meets
field_header_read = refl

pub field_header_rendered : render_header with_field ≡ field_header
unfolding sealed unsummed payload_shape texts_shape lists_shape feature_words spelled field_shape head_shape strings_shape column_shape crc32 fold byte bits shifted
field_header_rendered = refl

-- footers

abbrev pub smallest_footer : List ℕ
smallest_footer =
    1 ∷ 0 ∷ 1 ∷ 0 ∷ 0 ∷ 0 ∷ 0 ∷ 0 ∷ 0 ∷ 0 ∷ 0 ∷ 0 ∷ 104 ∷ 189 ∷ 182 ∷ 27 ∷ 248 ∷ 255 ∷ 255 ∷ 255 ∷ 0 ∷ 0 ∷ 0 ∷ 0 ∷ 248 ∷ 255 ∷
    255 ∷ 255 ∷ 0 ∷ 0 ∷ 0 ∷ 0 ∷ 248 ∷ 255 ∷ 255 ∷ 255 ∷ 0 ∷ 0 ∷ 0 ∷ 0 ∷ 248 ∷ 255 ∷ 255 ∷ 255 ∷ 0 ∷ 0 ∷ 0 ∷ 0 ∷ 159 ∷ 216 ∷ 134 ∷
    69 ∷ []

pub smallest_footer_read : footer_of (checksum_of smallest_header_lem) 0 smallest_footer ≡ found (record { clusters = []; metadata = [] }) 48
unfolding versioned opened record_of list_of items number judged string_of well_formed goes_on due frame_size record_head list_stop count_judged little crc32 fold byte bits shifted features footer_by_build footer-payload link list_checksum cluster entries_of
smallest_footer_read = refl

abbrev pub cluster_footer : List ℕ
cluster_footer =
    1 ∷ 0 ∷ 1 ∷ 0 ∷ 0 ∷ 0 ∷ 0 ∷ 0 ∷ 0 ∷ 0 ∷ 0 ∷ 0 ∷ 169 ∷ 228 ∷ 198 ∷ 166 ∷ 248 ∷ 255 ∷ 255 ∷ 255 ∷ 0 ∷ 0 ∷ 0 ∷ 0 ∷ 248 ∷ 255 ∷
    255 ∷ 255 ∷ 0 ∷ 0 ∷ 0 ∷ 0 ∷ 212 ∷ 255 ∷ 255 ∷ 255 ∷ 1 ∷ 0 ∷ 0 ∷ 0 ∷ 36 ∷ 0 ∷ 0 ∷ 0 ∷ 0 ∷ 0 ∷ 0 ∷ 0 ∷ 0 ∷ 0 ∷ 0 ∷ 0 ∷ 3 ∷ 0 ∷
    0 ∷ 0 ∷ 0 ∷ 0 ∷ 0 ∷ 0 ∷ 40 ∷ 0 ∷ 0 ∷ 0 ∷ 40 ∷ 0 ∷ 0 ∷ 0 ∷ 100 ∷ 0 ∷ 0 ∷ 0 ∷ 0 ∷ 0 ∷ 0 ∷ 0 ∷ 232 ∷ 255 ∷ 255 ∷ 255 ∷ 1 ∷ 0 ∷
    0 ∷ 0 ∷ 7 ∷ 0 ∷ 0 ∷ 0 ∷ 7 ∷ 0 ∷ 0 ∷ 0 ∷ 0 ∷ 0 ∷ 0 ∷ 0 ∷ 0 ∷ 0 ∷ 0 ∷ 0 ∷ 198 ∷ 217 ∷ 241 ∷ 43 ∷ []

-- the cluster's page list ends at the file's last byte
pub cluster_footer_read : footer_of (checksum_of field_header) 140 cluster_footer ≡ found (record {
  clusters = record { first_entry = 0; entries = 3; page_list = record { size = 40; offset = 100 }; checksum = no_checksum } ∷ [];
  metadata = record { size = 7; offset = 0 } ∷ [];
}) 100
unfolding versioned opened record_of list_of items number judged string_of well_formed goes_on due frame_size record_head list_stop count_judged little crc32 fold byte bits shifted features footer_by_build footer-payload link list_checksum cluster entries_of
cluster_footer_read = refl

-- one byte further than the file
pub cluster_footer_outside : footer_of (checksum_of field_header) 139 cluster_footer ≡ refused (record { number = 18; place = 68; kind = Number; list = 32; item = 0 })
unfolding in_item versioned opened record_of list_of items number judged string_of well_formed goes_on due frame_size record_head list_stop count_judged little crc32 fold byte bits shifted features footer_by_build footer-payload link list_checksum cluster entries_of
cluster_footer_outside = refl

-- beside another header
pub cluster_footer_stale : footer_of (checksum_of smallest_header_lem) 140 cluster_footer ≡ refused (record { number = 16; place = 12; kind = Number; list = 0; item = 0 })
unfolding versioned opened record_of list_of items number judged string_of well_formed goes_on due frame_size record_head list_stop count_judged little crc32 fold byte bits shifted features footer_by_build footer-payload link list_checksum cluster entries_of
cluster_footer_stale = refl

abbrev footer_tree : FooterTree
footer_tree =
    record {
      version = 1;
      minimum = 1;
      inside = record {
        words = 0;
        checksum = checksum_of field_header;
        extensions = record { inside = []; spare = [] };
        groups = record { inside = []; spare = [] };
        clusters = record {
          inside = record { inside = record { first = 0; entries = 3; link = record { size = 40; stored = 40; offset = 100 }; checksum = no_checksum }; spare = [] } ∷ [];
          spare = [];
        };
        metadata = record { inside = record { size = 7; stored = 7; offset = 0 } ∷ []; spare = [] };
      };
      spare = [];
    }

pub cluster_footer_rendered : render_footer footer_tree ≡ cluster_footer
unfolding sealed unsummed footer_shape cluster_shape link_shape feature_words spelled little crc32 fold byte bits shifted
cluster_footer_rendered = refl

-- page lists

abbrev pub smallest_page_list : List ℕ
smallest_page_list =
    1 ∷ 0 ∷ 1 ∷ 0 ∷ 248 ∷ 255 ∷ 255 ∷ 255 ∷ 0 ∷ 0 ∷ 0 ∷ 0 ∷ 177 ∷ 200 ∷ 170 ∷ 159 ∷ []

pub smallest_page_list_read : page_list_of small 0 0 smallest_page_list ≡ found [] 12
unfolding versioned opened record_of list_of items number judged string_of well_formed goes_on due frame_size record_head list_stop count_judged little crc32 fold byte bits shifted features page_list_of page-payload summed pages page pages_of totals total_of elements_of known
smallest_page_list_read = refl

abbrev pub one_page_list : List ℕ
one_page_list =
    1 ∷ 0 ∷ 1 ∷ 0 ∷ 224 ∷ 255 ∷ 255 ∷ 255 ∷ 1 ∷ 0 ∷ 0 ∷ 0 ∷ 232 ∷ 255 ∷ 255 ∷ 255 ∷ 1 ∷ 0 ∷ 0 ∷ 0 ∷ 3 ∷ 0 ∷ 0 ∷ 0 ∷ 24 ∷ 0 ∷ 0 ∷
    0 ∷ 50 ∷ 0 ∷ 0 ∷ 0 ∷ 0 ∷ 0 ∷ 0 ∷ 0 ∷ 50 ∷ 21 ∷ 194 ∷ 233 ∷ []

pub one_page_list_read : page_list_of one 3 74 one_page_list ≡ found ((record { column = record { 0 = 0 }; elements = 3; checksum = false; size = 24; offset = 50 } ∷ []) ∷ []) 36
unfolding versioned opened record_of list_of items number judged string_of well_formed goes_on due frame_size record_head list_stop count_judged little crc32 fold byte bits shifted features page_list_of page-payload summed pages page pages_of totals total_of elements_of known
one_page_list_read = refl

-- the cluster has another entry count
pub one_page_list_other : page_list_of one 4 74 one_page_list ≡ refused (record { number = 19; place = 0; kind = Total; list = 0; item = 0 })
unfolding versioned opened record_of list_of items number judged string_of well_formed goes_on due frame_size record_head list_stop count_judged little crc32 fold byte bits shifted features page_list_of page-payload summed pages page pages_of totals total_of elements_of known
one_page_list_other = refl

abbrev page_list_tree : PageListTree
page_list_tree =
    record {
      version = 1;
      minimum = 1;
      inside = record { inside = record { inside = record { word = 3; size = 24; offset = 50 } ∷ []; spare = [] } ∷ []; spare = [] };
      spare = [];
    }

pub one_page_list_rendered : render_page_list page_list_tree ≡ one_page_list
unfolding sealed unsummed page_list_shape pages_shape page_shape spelled crc32 fold byte bits shifted
one_page_list_rendered = refl
