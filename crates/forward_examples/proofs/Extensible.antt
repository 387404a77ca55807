-- The rules of reading, computed on the examples and on an extension of every one of their frames.
use Prim.Native.Nat.{ℕ, ◌^◌, ◌<◌}
use mathlib.Core.List.{List, [], ◌∷◌, ◌++◌, map}
use mathlib.Core.Path.{◌≡◌, refl, ap, ◌∙◌}
use native.Mathlib.Omega.{arith}
use lib.ListN.{length}
use Rattle.numbers.specs.Numbers.{little}
use Rattle.checksum.specs.Crc.{shifted, bits, byte, fold, crc32}
use Rattle.wire.specs.Reading.{Step, found, number, judged}
use Rattle.text.specs.Strings.{string_of}
use Rattle.utf8.specs.WellFormed.{due, goes_on, well_formed}
use Rattle.frames.specs.Frames.{record_of, list_of, items, frame_size, record_head, list_stop, count_judged}
use Rattle.envelope.specs.Envelope.{checksum_of, versioned, opened}
use Rattle.envelope.specs.Features.{features}
use Rattle.column_type.specs.Types.{known, width_of, widths}
use Rattle.records.specs.Records.{repetition, field_head, field_texts, field, column, alias, texts}
use Rattle.parents.specs.Parents.{meets, all_reach}
use Rattle.header.specs.Header.{Header, columns_after, aliases_after, lists, payload}
use Rattle.header.specs.Tables.{header_of, chained}
use Rattle.header.specs.Beside.{in_envelope, beside}
use Rattle.rows.specs.Words.{no_checksum}
use Rattle.links.specs.Links.{link}
use Rattle.clusters.specs.Clusters.{list_checksum as carriedChecksum, cluster, entries_of}
use Rattle.footer.specs.Footer.{Footer, this_build, footer_by_build, footer_of, payload as footerPayload}
use Rattle.footer.specs.Tables.{beside_by_build}
use Rattle.page_list.specs.PageList.{page_list_of, summed}
use Rattle.column_pages.specs.ColumnPages.{payload as pageListPayload, pages_of}
use Rattle.pages.specs.Pages.{pages, page, elements_of}
use Rattle.totals.specs.Totals.{totals, total_of}
use Rattle.page_list.specs.Tables.{page_list_beside}
use Rattle.tree.specs.Bytes.{spelled}
use Rattle.tree.specs.EnvelopeTree.{unsummed, sealed}
use Rattle.tree.specs.HeaderTree.{feature_words, texts_shape, lists_shape, payload_shape, head_shape, strings_shape, field_shape, column_shape, alias_shape, render_header}
use Rattle.tree.specs.FooterTree.{footer_shape, cluster_shape, link_shape, render_footer}
use Rattle.tree.specs.PageListTree.{page_list_shape, pages_shape, page_shape, render_page_list}
use Rattle.header.proofs.Besides.{both_read_is}
use Rattle.forward.specs.Extension.{Added, Pairwise, none, more, Grown, GrownList, GrownFrame, extended}
use Rattle.forward.specs.ReadersForward.{Checksummed}
use Rattle.forward_examples.specs.Example.{framed_with, frames_with, added_bytes, example_fields, example_columns, example_aliases, plain_checksum, newer_checksum, list_checksum, cluster_with, example_pages, plain_header, newer_header, plain_footer, newer_footer, plain_page_list, newer_page_list, plain_read, newer_read, footer_read, pages_read, appended_header, Extensible, Appendable}

-- bytes added behind those that are there

pub added : (spare : List ℕ) → Added spare (spare ++ added_bytes)
added spare = record { extra = added_bytes; is = refl }

pub frame_grows : {C : Type 0} (spare : List ℕ) (c : C) → GrownFrame (framed_with spare c) (framed_with (spare ++ added_bytes) c)
frame_grows spare c = record { inside = refl; spare = added spare }

each_grows : {C : Type 0} (spare : List ℕ) (cs : List C) → Pairwise GrownFrame (map (framed_with spare) cs) (map (framed_with (spare ++ added_bytes)) cs)
each_grows spare [] = none
each_grows spare (c ∷ cs) = more (frame_grows spare c) (each_grows spare cs)

pub frames_grow : {C : Type 0} (spare : List ℕ) (cs : List C) → GrownList GrownFrame (frames_with spare cs) (frames_with (spare ++ added_bytes) cs)
frames_grow spare cs = record { inside = each_grows spare cs; spare = added spare }

-- the cluster's record gets the checksum, and bytes behind it
clusters_raised : Pairwise (Grown Checksummed) plain_footer.inside.clusters.inside newer_footer.inside.clusters.inside
clusters_raised =
    let fits : list_checksum < 2 ^ 32 = omega arith in
    let given : Grown Checksummed (framed_with [] (cluster_with no_checksum)) (framed_with added_bytes (cluster_with list_checksum)) = record {
      inside = record { first = refl; entries = refl; link = refl; fits = fits };
      spare = added [];
    } in
    more given none

-- what the rules read

pub header_reads_lem : header_of (render_header plain_header) ≡ found plain_read 164
unfolding versioned opened record_of list_of items number judged string_of well_formed goes_on due frame_size record_head list_stop count_judged little crc32 fold byte bits shifted features header_of chained payload texts lists columns_after aliases_after repetition field_head field_texts field column alias known width_of widths all_reach meets sealed unsummed payload_shape texts_shape lists_shape feature_words spelled field_shape head_shape strings_shape column_shape alias_shape
header_reads_lem = refl

pub newer_header_reads_lem : header_of (render_header newer_header) ≡ found newer_read 182
unfolding versioned opened record_of list_of items number judged string_of well_formed goes_on due frame_size record_head list_stop count_judged little crc32 fold byte bits shifted features header_of chained payload texts lists columns_after aliases_after repetition field_head field_texts field column alias known width_of widths all_reach meets sealed unsummed payload_shape texts_shape lists_shape feature_words spelled field_shape head_shape strings_shape column_shape alias_shape
newer_header_reads_lem = refl

-- the checksums of the headers

header_sum_lem : checksum_of (render_header plain_header) ≡ plain_checksum
unfolding little crc32 fold byte bits shifted sealed unsummed payload_shape texts_shape lists_shape feature_words spelled field_shape head_shape strings_shape column_shape alias_shape
header_sum_lem = refl

newer_header_sum_lem : checksum_of (render_header newer_header) ≡ newer_checksum
unfolding little crc32 fold byte bits shifted sealed unsummed payload_shape texts_shape lists_shape feature_words spelled field_shape head_shape strings_shape column_shape alias_shape
newer_header_sum_lem = refl

-- what any build reads in a footer beside each of them

beside_header_lem : (e : List ℕ) (h : Header) (p sum : ℕ) → header_of e ≡ found h p → checksum_of e ≡ sum → (newest : ℕ) (footer : List ℕ) (x : Step Footer)
    → footer_by_build newest sum 140 footer ≡ x → beside_by_build newest e footer 140 ≡ in_envelope 2 x
unfolding beside_by_build
beside_header_lem e h p sum reads is newest footer x finds =
    ap (beside 2 (λ _. footer_by_build newest (checksum_of e) 140 footer)) reads ∙ ap (λ (n : ℕ). in_envelope 2 (footer_by_build newest n 140 footer)) is ∙ ap (in_envelope 2) finds

pub beside_plain : (newest : ℕ) (footer : List ℕ) (x : Step Footer) → footer_by_build newest plain_checksum 140 footer ≡ x
    → beside_by_build newest (render_header plain_header) footer 140 ≡ in_envelope 2 x
beside_plain = beside_header_lem (render_header plain_header) plain_read 164 plain_checksum header_reads_lem header_sum_lem

pub beside_newer : (newest : ℕ) (footer : List ℕ) (x : Step Footer) → footer_by_build newest newer_checksum 140 footer ≡ x
    → beside_by_build newest (render_header newer_header) footer 140 ≡ in_envelope 2 x
beside_newer = beside_header_lem (render_header newer_header) newer_read 182 newer_checksum newer_header_reads_lem newer_header_sum_lem

footer_reads_lem : footer_of plain_checksum 140 (render_footer plain_footer) ≡ found (footer_read no_checksum) 100
unfolding versioned opened record_of list_of items number judged frame_size record_head list_stop count_judged little crc32 fold byte bits shifted features sealed unsummed feature_words spelled footer_by_build link carriedChecksum cluster entries_of footerPayload footer_shape cluster_shape link_shape
footer_reads_lem = refl

newer_footer_reads_lem : footer_of newer_checksum 140 (render_footer newer_footer) ≡ found (footer_read list_checksum) 116
unfolding versioned opened record_of list_of items number judged frame_size record_head list_stop count_judged little crc32 fold byte bits shifted features sealed unsummed feature_words spelled footer_by_build link carriedChecksum cluster entries_of footerPayload footer_shape cluster_shape link_shape
newer_footer_reads_lem = refl

page_list_reads_lem : page_list_of plain_read 3 80 (render_page_list plain_page_list) ≡ found pages_read 60
unfolding versioned opened record_of list_of items number judged frame_size list_stop count_judged little crc32 fold byte bits shifted sealed unsummed spelled known page_list_of pageListPayload summed pages page pages_of totals total_of elements_of page_list_shape pages_shape page_shape
page_list_reads_lem = refl

newer_page_list_reads_lem : page_list_of newer_read 3 80 (render_page_list newer_page_list) ≡ found pages_read 68
unfolding versioned opened record_of list_of items number judged frame_size list_stop count_judged little crc32 fold byte bits shifted sealed unsummed spelled known page_list_of pageListPayload summed pages page pages_of totals total_of elements_of page_list_shape pages_shape page_shape
newer_page_list_reads_lem = refl

pub extensible : Extensible
unfolding sealed unsummed payload_shape texts_shape lists_shape feature_words spelled field_shape head_shape strings_shape column_shape alias_shape footer_shape cluster_shape link_shape page_list_shape pages_shape page_shape page_list_beside
extensible =
    record {
      header = extended {new = newer_header} (record {
        minimum = refl;
        above = omega arith;
        not_lowered = omega arith;
        fits = omega arith;
        inside = record {
          words = refl;
          name = refl;
          description = refl;
          fields = frames_grow [] example_fields;
          columns = frames_grow [] example_columns;
          aliases = frames_grow [] example_aliases;
        };
        spare = added [];
      });
      header_bytes = refl;
      newer_header_bytes = refl;
      header_reads = header_reads_lem;
      newer_header_reads = newer_header_reads_lem;
      header_sum = header_sum_lem;
      newer_header_sum = newer_header_sum_lem;
      footer = extended {new = newer_footer} (record {
        minimum = refl;
        above = omega arith;
        not_lowered = omega arith;
        fits = omega arith;
        inside = record {
          words = refl;
          checksum = newer_header_sum_lem;
          extensions = frame_grows [] _;
          groups = frame_grows [] _;
          clusters = record { inside = clusters_raised; spare = added [] };
          metadata = frame_grows [] _;
        };
        spare = added [];
      });
      footer_bytes = refl;
      newer_footer_bytes = refl;
      footer_reads = beside_plain this_build (render_footer plain_footer) (found (footer_read no_checksum) 100) footer_reads_lem;
      newer_footer_reads = beside_newer this_build (render_footer newer_footer) (found (footer_read list_checksum) 116) newer_footer_reads_lem;
      page_list = extended {new = newer_page_list} (record {
        minimum = refl;
        above = omega arith;
        not_lowered = omega arith;
        fits = omega arith;
        inside = frames_grow [] example_pages;
        spare = added [];
      });
      page_list_bytes = refl;
      newer_page_list_bytes = refl;
      page_list_reads = both_read_is 3 (λ h. page_list_of h 3 80 (render_page_list plain_page_list)) (header_of (render_header plain_header)) pages_read plain_read 164 60 header_reads_lem page_list_reads_lem;
      newer_page_list_reads = both_read_is 3 (λ h. page_list_of h 3 80 (render_page_list newer_page_list)) (header_of (render_header newer_header)) pages_read newer_read 182 68 newer_header_reads_lem newer_page_list_reads_lem;
    }

appended_long : length (render_header appended_header) ≡ 221
unfolding sealed unsummed payload_shape texts_shape lists_shape feature_words spelled field_shape head_shape strings_shape column_shape alias_shape
appended_long = refl

pub appendable : Appendable
unfolding versioned opened record_of list_of items number judged string_of well_formed goes_on due frame_size record_head list_stop count_judged little crc32 fold byte bits shifted features header_of chained payload texts lists columns_after aliases_after repetition field_head field_texts field column alias known width_of widths all_reach meets sealed unsummed payload_shape texts_shape lists_shape feature_words spelled field_shape head_shape strings_shape column_shape alias_shape
appendable =
    record {
      appendix = record {
        self_parented = (refl, tt);
        valid_fields = ((((omega arith, refl), ((omega arith, refl), ((omega arith, refl), ((omega arith, refl), ((omega arith, refl), (refl, tt)))))), ((refl, (refl, (refl, (refl, tt)))), tt)), tt);
        valid_columns = (((omega arith, refl), ((omega arith, refl), ((omega arith, refl), ((omega arith, refl), tt)))), tt);
        on_them = (omega arith, tt);
        plain_fields = λ _. (refl, tt);
        plain_columns = λ _. (refl, tt);
        few_fields = omega arith;
        few_columns = omega arith;
        small = omega (arith, appended_long);
      };
      appended_reads = refl;
    }
