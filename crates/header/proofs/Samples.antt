-- Two headers, read by the definitions.
use Prim.Native.Nat.{ℕ, ◌/◌}
use mathlib.Core.List.{[], ◌∷◌}
use mathlib.Core.Bool.{true}
use mathlib.Core.Path.{◌≡◌, refl, ◌∙◌}
use native.Mathlib.Omega.{arith}
use lib.ListN.{length}
use lib.Dec.{leb}
use borrow.Author.Tests.{le-leb}
use Rattle.numbers.specs.Numbers.{little}
use Rattle.numbers.specs.Rows.{flat, flat_by}
use Rattle.checksum.specs.Crc.{shifted, bits, byte, fold, crc32}
use Rattle.wire.specs.Reading.{found, number, judged}
use Rattle.text.specs.Strings.{string_of}
use Rattle.utf8.specs.WellFormed.{due, goes_on, well_formed}
use Rattle.frames.specs.Frames.{record_of, list_of, items, frame_size, record_head, list_stop, count_judged}
use Rattle.envelope.specs.Envelope.{versioned, opened}
use Rattle.envelope.specs.Features.{features}
use Rattle.records.specs.Records.{repetition, field_head, field_texts, field, texts}
use Rattle.rows.specs.Words.{field_width, column_width, alias_width, field_words}
use Rattle.header.specs.Header.{columns_after, aliases_after, lists, payload}
use Rattle.parents.specs.Parents.{meets, all_reach}
use Rattle.header.specs.Tables.{header_of, chained, answer, written}
use Rattle.parents.specs.Dark.{dark}
use Rattle.header.specs.Samples.{smallest_header, SmallestHeader, header_with_one_field, HeaderWithOneField}

smallest_read : header_of smallest_header ≡ found (record {
  texts = record { name = record { place = 16; len = 0 }; description = record { place = 20; len = 0 } };
  lists = record { fields_at = 20; fields = []; columns_at = 28; columns = []; aliases_at = 36; aliases = [] };
}) 44
unfolding versioned opened record_of list_of items number judged string_of well_formed goes_on due frame_size record_head list_stop count_judged little crc32 fold byte bits shifted features header_of chained payload texts lists columns_after aliases_after repetition field_head field_texts field all_reach meets
smallest_read = refl

none : (n : ℕ) → leb 0 n ≡ true
none n = le-leb 0 n (omega arith)

pub smallest_header_lem : SmallestHeader
unfolding answer written flat flat_by
smallest_header_lem f f' c c' a a' r call =
    let x = none (length f / field_width) in
    let y = none (length c / column_width) in
    let z = none (length a / alias_width) in
    (call.answers ∙ rw (smallest_read, x, y, z), call.fields_are ∙ rw (smallest_read, x, y, z), call.columns_are ∙ rw (smallest_read, x, y, z), call.aliases_are ∙ rw (smallest_read, x, y, z))

one_field_read : header_of header_with_one_field ≡ found (record {
  texts = record { name = record { place = 16; len = 0 }; description = record { place = 20; len = 0 } };
  lists = record {
    fields_at = 20;
    fields = record { head = record { field_version = 2; type_version = 3; parent = record { 0 = 0 }; role = 1; flags = 1; repetition = 5 }; texts = record { name = record { place = 60; len = 2 }; type_name = record { place = 66; len = 1 }; type_alias = record { place = 71; len = 0 }; description = record { place = 75; len = 1 } } } ∷ [];
    columns_at = 76;
    columns = [];
    aliases_at = 84;
    aliases = [];
  };
}) 92
unfolding versioned opened record_of list_of items number judged string_of well_formed goes_on due frame_size record_head list_stop count_judged little crc32 fold byte bits shifted features header_of chained payload texts lists columns_after aliases_after repetition field_head field_texts field all_reach meets
one_field_read = refl

pub header_with_one_field_lem : HeaderWithOneField
unfolding answer written flat flat_by field_words dark
header_with_one_field_lem f f' c c' a a' r fits call =
    let x : leb 1 (length f / field_width) ≡ true = le-leb 1 (length f / field_width) (omega arith) in
    let y = none (length c / column_width) in
    let z = none (length a / alias_width) in
    (call.answers ∙ rw (one_field_read, x, y, z), call.fields_are ∙ rw (one_field_read, x, y, z), call.columns_are ∙ rw (one_field_read, x, y, z), call.aliases_are ∙ rw (one_field_read, x, y, z))
