-- The footer that was raised and the page lists that are read for its row, computed.
use Prim.Native.Nat.{ℕ}
use mathlib.Core.List.{[], ◌∷◌}
use mathlib.Core.Bool.{false}
use mathlib.Core.Path.{◌≡◌, refl, sym, ap, ◌∙◌}
use native.Mathlib.Omega.{arith}
use lib.Dec.{eqb}
use borrow.Author.Tests.{eqb-false}
use Rattle.numbers.specs.Numbers.{little}
use Rattle.checksum.specs.Crc.{shifted, bits, byte, fold, crc32}
use Rattle.wire.specs.declared.Kind.TheVariants.{Number}
use Rattle.wire.specs.Reading.{found, refused, number, judged, in_item}
use Rattle.frames.specs.Frames.{record_of, list_of, items, frame_size, record_head, list_stop, count_judged}
use Rattle.envelope.specs.Envelope.{checksum_of, versioned, opened}
use Rattle.envelope.specs.Features.{features}
use Rattle.column_type.specs.Types.{known}
use Rattle.rows.specs.Words.{no_checksum}
use Rattle.header.specs.Tables.{header_of}
use Rattle.header.proofs.Besides.{both_read_is}
use Rattle.links.specs.Links.{link}
use Rattle.clusters.specs.Clusters.{list_checksum as carriedChecksum, cluster, entries_of}
use Rattle.footer.specs.Footer.{this_build, first_build, footer_by_build, footer_of, payload}
use Rattle.pages.specs.Pages.{pages, page, elements_of}
use Rattle.column_pages.specs.ColumnPages.{payload as pageListPayload, pages_of}
use Rattle.totals.specs.Totals.{totals, total_of}
use Rattle.page_list.specs.PageList.{page_list_of, summed}
use Rattle.page_list.specs.Tables.{page_list_beside}
use Rattle.pairing.specs.Paired.{paired_beside}
use Rattle.pairing.proofs.Pairs.{pairs}
use Rattle.tree.specs.Bytes.{spelled}
use Rattle.tree.specs.EnvelopeTree.{unsummed, sealed}
use Rattle.tree.specs.HeaderTree.{feature_words, render_header}
use Rattle.tree.specs.FooterTree.{link_shape, cluster_shape, footer_shape, render_footer}
use Rattle.tree.specs.PageListTree.{page_list_shape, pages_shape, page_shape, render_page_list}
use Rattle.forward.specs.Extension.{extended}
use Rattle.forward_examples.specs.Example.{added_bytes, plain_checksum, newer_checksum, list_checksum, cluster_with, newer_header, plain_footer, newer_footer, later_footer, unchecked_footer, plain_page_list, newer_page_list, newer_read, footer_read, pages_read, Raised, Paired}
use Rattle.forward_examples.proofs.Extensible.{added, frame_grows, frames_grow, newer_header_reads_lem, beside_plain, beside_newer, extensible}

-- what the first build's rules read

plain_old_lem : footer_by_build first_build plain_checksum 140 (render_footer plain_footer) ≡ found (footer_read no_checksum) 100
unfolding versioned opened record_of list_of items number judged frame_size record_head list_stop count_judged little crc32 fold byte bits shifted features sealed unsummed feature_words spelled footer_by_build link carriedChecksum cluster entries_of payload footer_shape cluster_shape link_shape
plain_old_lem = refl

newer_old_lem : footer_by_build first_build newer_checksum 140 (render_footer newer_footer) ≡ found (footer_read no_checksum) 116
unfolding versioned opened record_of list_of items number judged frame_size record_head list_stop count_judged little crc32 fold byte bits shifted features sealed unsummed feature_words spelled footer_by_build link carriedChecksum cluster entries_of payload footer_shape cluster_shape link_shape
newer_old_lem = refl

-- and this build's

later_reads_lem : footer_of newer_checksum 140 (render_footer later_footer) ≡ found (footer_read list_checksum) 128
unfolding versioned opened record_of list_of items number judged frame_size record_head list_stop count_judged little crc32 fold byte bits shifted features sealed unsummed feature_words spelled footer_by_build link carriedChecksum cluster entries_of payload footer_shape cluster_shape link_shape
later_reads_lem = refl

missing_reads : footer_of plain_checksum 140 unchecked_footer ≡ refused (record { number = 7; place = 76; kind = Number; list = 32; item = 0 })
unfolding in_item versioned opened record_of list_of items number judged frame_size record_head list_stop count_judged little crc32 fold byte bits shifted features sealed unsummed feature_words spelled footer_by_build link carriedChecksum cluster entries_of payload footer_shape cluster_shape link_shape
missing_reads = refl

pub raised : Raised
raised =
    record {
      plain_old = beside_plain first_build (render_footer plain_footer) (found (footer_read no_checksum) 100) plain_old_lem;
      newer_old = beside_newer first_build (render_footer newer_footer) (found (footer_read no_checksum) 116) newer_old_lem;
      later = extended {new = later_footer} (record {
        minimum = refl;
        above = omega arith;
        not_lowered = omega arith;
        fits = omega arith;
        inside = record {
          words = refl;
          checksum = extensible.newer_header_sum;
          extensions = frame_grows added_bytes _;
          groups = frame_grows added_bytes _;
          clusters = frames_grow added_bytes (cluster_with list_checksum ∷ []);
          metadata = frame_grows added_bytes _;
        };
        spare = added added_bytes;
      });
      later_reads = beside_newer this_build (render_footer later_footer) (found (footer_read list_checksum) 128) later_reads_lem;
      missing = beside_plain this_build unchecked_footer (refused (record { number = 7; place = 76; kind = Number; list = 32; item = 0 })) missing_reads;
    }

-- the page lists

its_checksum : checksum_of (render_page_list newer_page_list) ≡ list_checksum
unfolding little sealed unsummed page_list_shape pages_shape page_shape spelled crc32 fold byte bits shifted
its_checksum = refl

other_checksum : eqb (checksum_of (render_page_list plain_page_list)) list_checksum ≡ false
unfolding little sealed unsummed page_list_shape pages_shape page_shape spelled crc32 fold byte bits shifted
other_checksum = refl

alone_reads : page_list_of newer_read 3 80 (render_page_list plain_page_list) ≡ found pages_read 60
unfolding versioned opened record_of list_of items number judged frame_size list_stop count_judged little crc32 fold byte bits shifted sealed unsummed spelled known page_list_of pageListPayload summed pages page pages_of totals total_of elements_of page_list_shape pages_shape page_shape
alone_reads = refl

pub paired : Paired
unfolding page_list_beside
paired =
    let e = render_header newer_header in
    let alone = both_read_is 3 (λ h. page_list_of h 3 80 (render_page_list plain_page_list)) (header_of e) pages_read newer_read 182 60 newer_header_reads_lem alone_reads in
    record {
      its = its_checksum;
      paired = ap (λ (n : ℕ). paired_beside e (render_page_list newer_page_list) 3 n 80) (sym its_checksum) ∙ pairs.its e (render_page_list newer_page_list) 3 80 ∙ extensible.newer_page_list_reads;
      alone = alone;
      stale = pairs.another e (render_page_list plain_page_list) 3 list_checksum 80 pages_read (λ none. omega (arith, none)) (eqb-false (checksum_of (render_page_list plain_page_list)) list_checksum other_checksum) alone;
    }
