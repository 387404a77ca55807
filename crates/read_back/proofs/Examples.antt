-- The worked examples, computed.
use mathlib.Core.Path.{refl}
use Rattle.checksum.specs.Crc.{shifted, bits, byte, fold, crc32}
use Rattle.utf8.specs.WellFormed.{due, goes_on, well_formed}
use Rattle.column_type.specs.Types.{known, width_of, widths}
use Rattle.parents.specs.Parents.{all_reach, meets}
use Rattle.rows.specs.Tables.{row_words, first_rows}
use Rattle.clusters.specs.Clusters.{entries_of}
use Rattle.pages.specs.Pages.{elements_of}
use Rattle.totals.specs.Totals.{totals}
use Rattle.tree.specs.Bytes.{spelled}
use Rattle.tree.specs.EnvelopeTree.{sealed}
use Rattle.writing.specs.Piece.{text, pieces}
use Rattle.writing.specs.Header.{repetition_piece, field_head_piece, field_texts_piece, field_piece, column_piece, texts_piece, lists_piece, payload_piece, header_piece}
use Rattle.writing.specs.Footer.{link_piece, checksum_piece, cluster_piece, footer_payload_piece, all_as_carried, footer_piece}
use Rattle.writing.specs.PageList.{page_word_piece, page_piece, of_column, by_column, in_column_order, pages_in, page_list_payload_piece, pages_say, page_list_piece}
use Rattle.read_back.specs.Examples.{WrittenHeaders, WrittenFooters, WrittenPageLists}

pub written_headers : WrittenHeaders
unfolding header_piece payload_piece texts_piece lists_piece text pieces first_rows row_words sealed spelled crc32 fold byte bits shifted field_piece field_head_piece field_texts_piece repetition_piece column_piece well_formed goes_on due all_reach meets known width_of widths
written_headers =
    record {
      smallest = refl;
      with_one_field = refl;
      good = refl;
      no_such_parent = refl;
      parent_too_wide = refl;
      string_outside = refl;
      empty_outside = refl;
      ill_formed = refl;
      too_long = refl;
      other_bits = refl;
      endless = refl;
    }

pub written_footers : WrittenFooters
unfolding footer_piece footer_payload_piece all_as_carried cluster_piece checksum_piece link_piece entries_of pieces first_rows row_words sealed spelled
written_footers =
    record {
      empty = record { good = refl; version_is = refl; minimum_is = refl };
      without = record { good = refl; version_is = refl; minimum_is = refl };
      with = record { good = refl; version_is = refl; minimum_is = refl };
      mixed = refl;
      checksum_too_wide = refl;
      size_too_wide = refl;
      outside_file = refl;
      other_start = refl;
      entries_too_wide = refl;
    }

pub written_page_lists : WrittenPageLists
unfolding page_list_piece page_list_payload_piece page_piece page_word_piece pages_in by_column of_column in_column_order pages_say pieces first_rows row_words totals elements_of
written_page_lists =
    record {
      good = refl;
      another_order = refl;
      no_such_column = refl;
      elements_too_many = refl;
      bit_too_wide = refl;
      other_size = refl;
      check_bytes_outside = refl;
    }
