-- The numbers of Refusals are no more than there are: envelopes that are refused with each of them, in order, from
-- 2 on. Another program wrote their bytes.
use Rattle.std.specs.Prelude.{ℕ, ◌<◌, List, [], ◌∷◌, map, ◌≡◌, length}
use Rattle.wire.specs.Reading.{Step, found, refused}
use Rattle.envelope.specs.Envelope.{ceiling, checksum_of}
use Rattle.header.specs.Header.{Header}
use Rattle.header.specs.Tables.{header_of}
use Rattle.listing.specs.Answers.{reported}
use Rattle.listing.specs.Samples.{vector_header}
use Rattle.footer.specs.Footer.{footer_of}
use Rattle.page_list.specs.PageList.{page_list_of}
use Rattle.pairing.specs.Paired.{paired_of}
use Rattle.refusals.specs.Refusals.{in_header, with_room, in_footer, in_page_list, in_pairing}

-- the number of a refusal, 0 where there is none
abbrev pub number_of : {A : Type 0} → Step A → ℕ
number_of (found a p) = 0
number_of (refused f) = f.number

abbrev pub headers : List (List ℕ)
headers =
    -- 2: nothing at all
    []
    -- 3: eight zeros
    ∷ (0 ∷ 0 ∷ 0 ∷ 0 ∷ 0 ∷ 0 ∷ 0 ∷ 0 ∷ [])
    -- 4: minimum 0
    ∷ (0 ∷ 0 ∷ 0 ∷ 0 ∷ 28 ∷ 223 ∷ 68 ∷ 33 ∷ [])
    -- 5: minimum 2
    ∷ (2 ∷ 0 ∷ 2 ∷ 0 ∷ 21 ∷ 117 ∷ 123 ∷ 185 ∷ [])
    -- 6: feature bit 0
    ∷ (1 ∷ 0 ∷ 1 ∷ 0 ∷ 1 ∷ 0 ∷ 0 ∷ 0 ∷ 0 ∷ 0 ∷ 0 ∷ 0 ∷ 160 ∷ 225 ∷ 24 ∷ 195 ∷ [])
    -- 7: an empty payload
    ∷ (1 ∷ 0 ∷ 1 ∷ 0 ∷ 56 ∷ 137 ∷ 227 ∷ 128 ∷ [])
    -- 8: a record where the first list is due
    ∷ (1 ∷ 0 ∷ 1 ∷ 0 ∷ 0 ∷ 0 ∷ 0 ∷ 0 ∷ 0 ∷ 0 ∷ 0 ∷ 0 ∷ 0 ∷ 0 ∷ 0 ∷ 0 ∷ 0 ∷ 0 ∷ 0 ∷ 0 ∷ 4 ∷ 0 ∷ 0 ∷ 0 ∷ 144 ∷ 92 ∷ 174 ∷ 186 ∷ [])
    -- 9: a name with byte 200
    ∷ (1 ∷ 0 ∷ 1 ∷ 0 ∷ 0 ∷ 0 ∷ 0 ∷ 0 ∷ 0 ∷ 0 ∷ 0 ∷ 0 ∷ 1 ∷ 0 ∷ 0 ∷ 0 ∷ 200 ∷ 36 ∷ 130 ∷ 109 ∷ 95 ∷ [])
    -- 10: 513 fields
    ∷ (1 ∷ 0 ∷ 1 ∷ 0 ∷ 0 ∷ 0 ∷ 0 ∷ 0 ∷ 0 ∷ 0 ∷ 0 ∷ 0 ∷ 0 ∷ 0 ∷ 0 ∷ 0 ∷ 0 ∷ 0 ∷ 0 ∷ 0 ∷ 248 ∷ 255 ∷ 255 ∷ 255 ∷ 1 ∷ 2 ∷ 0 ∷ 0 ∷ 231 ∷ 182 ∷ 248 ∷ 77 ∷ [])
    -- 11: a byte after the smallest header, at version 1
    ∷ (1 ∷ 0 ∷ 1 ∷ 0 ∷ 0 ∷ 0 ∷ 0 ∷ 0 ∷ 0 ∷ 0 ∷ 0 ∷ 0 ∷ 0 ∷ 0 ∷ 0 ∷ 0 ∷ 0 ∷ 0 ∷ 0 ∷ 0 ∷ 248 ∷ 255 ∷ 255 ∷ 255 ∷ 0 ∷ 0 ∷ 0 ∷ 0 ∷ 248 ∷ 255 ∷ 255 ∷ 255 ∷ 0 ∷ 0 ∷ 0 ∷ 0 ∷ 248 ∷ 255 ∷ 255 ∷ 255 ∷ 0 ∷ 0 ∷ 0 ∷ 0 ∷ 0 ∷ 90 ∷ 176 ∷ 112 ∷ 145 ∷ [])
    -- 12: role 5
    ∷ (1 ∷ 0 ∷ 1 ∷ 0 ∷ 0 ∷ 0 ∷ 0 ∷ 0 ∷ 0 ∷ 0 ∷ 0 ∷ 0 ∷ 0 ∷ 0 ∷ 0 ∷ 0 ∷ 0 ∷ 0 ∷ 0 ∷ 0 ∷ 212 ∷ 255 ∷ 255 ∷ 255 ∷ 1 ∷ 0 ∷ 0 ∷ 0 ∷ 36 ∷ 0 ∷ 0 ∷ 0 ∷ 0 ∷ 0 ∷ 0 ∷ 0 ∷ 0 ∷ 0 ∷ 0 ∷ 0 ∷ 0 ∷ 0 ∷ 0 ∷ 0 ∷ 5 ∷ 0 ∷ 0 ∷ 0 ∷ 0 ∷ 0 ∷ 0 ∷ 0 ∷ 0 ∷ 0 ∷ 0 ∷ 0 ∷ 0 ∷ 0 ∷ 0 ∷ 0 ∷ 0 ∷ 0 ∷ 0 ∷ 0 ∷ 118 ∷ 125 ∷ 13 ∷ 36 ∷ [])
    -- 13: a column of type 1 with 63 bits
    ∷ (1 ∷ 0 ∷ 1 ∷ 0 ∷ 0 ∷ 0 ∷ 0 ∷ 0 ∷ 0 ∷ 0 ∷ 0 ∷ 0 ∷ 0 ∷ 0 ∷ 0 ∷ 0 ∷ 0 ∷ 0 ∷ 0 ∷ 0 ∷ 248 ∷ 255 ∷ 255 ∷ 255 ∷ 0 ∷ 0 ∷ 0 ∷ 0 ∷ 240 ∷ 255 ∷ 255 ∷ 255 ∷ 1 ∷ 0 ∷ 0 ∷ 0 ∷ 8 ∷ 0 ∷ 0 ∷ 0 ∷ 1 ∷ 0 ∷ 63 ∷ 0 ∷ 43 ∷ 17 ∷ 159 ∷ 80 ∷ [])
    -- 14: parent 1 of one field
    ∷ (1 ∷ 0 ∷ 1 ∷ 0 ∷ 0 ∷ 0 ∷ 0 ∷ 0 ∷ 0 ∷ 0 ∷ 0 ∷ 0 ∷ 0 ∷ 0 ∷ 0 ∷ 0 ∷ 0 ∷ 0 ∷ 0 ∷ 0 ∷ 212 ∷ 255 ∷ 255 ∷ 255 ∷ 1 ∷ 0 ∷ 0 ∷ 0 ∷ 36 ∷ 0 ∷ 0 ∷ 0 ∷ 0 ∷ 0 ∷ 0 ∷ 0 ∷ 0 ∷ 0 ∷ 0 ∷ 0 ∷ 1 ∷ 0 ∷ 0 ∷ 0 ∷ 0 ∷ 0 ∷ 0 ∷ 0 ∷ 0 ∷ 0 ∷ 0 ∷ 0 ∷ 0 ∷ 0 ∷ 0 ∷ 0 ∷ 0 ∷ 0 ∷ 0 ∷ 0 ∷ 0 ∷ 0 ∷ 0 ∷ 0 ∷ 78 ∷ 200 ∷ 162 ∷ 142 ∷ [])
    -- 15: two fields, each the other's parent
    ∷ (1 ∷ 0 ∷ 1 ∷ 0 ∷ 0 ∷ 0 ∷ 0 ∷ 0 ∷ 0 ∷ 0 ∷ 0 ∷ 0 ∷ 0 ∷ 0 ∷ 0 ∷ 0 ∷ 0 ∷ 0 ∷ 0 ∷ 0 ∷ 176 ∷ 255 ∷ 255 ∷ 255 ∷ 2 ∷ 0 ∷ 0 ∷ 0 ∷ 36 ∷ 0 ∷ 0 ∷ 0 ∷ 0 ∷ 0 ∷ 0 ∷ 0 ∷ 0 ∷ 0 ∷ 0 ∷ 0 ∷ 1 ∷ 0 ∷ 0 ∷ 0 ∷ 0 ∷ 0 ∷ 0 ∷ 0 ∷ 0 ∷ 0 ∷ 0 ∷ 0 ∷ 0 ∷ 0 ∷ 0 ∷ 0 ∷ 0 ∷ 0 ∷ 0 ∷ 0 ∷ 0 ∷ 0 ∷ 0 ∷ 0 ∷ 36 ∷ 0 ∷ 0 ∷ 0 ∷ 0 ∷ 0 ∷ 0 ∷ 0 ∷ 0 ∷ 0 ∷ 0 ∷ 0 ∷ 0 ∷ 0 ∷ 0 ∷ 0 ∷ 0 ∷ 0 ∷ 0 ∷ 0 ∷ 0 ∷ 0 ∷ 0 ∷ 0 ∷ 0 ∷ 0 ∷ 0 ∷ 0 ∷ 0 ∷ 0 ∷ 0 ∷ 0 ∷ 0 ∷ 0 ∷ 0 ∷ 0 ∷ 248 ∷ 255 ∷ 255 ∷ 255 ∷ 0 ∷ 0 ∷ 0 ∷ 0 ∷ 248 ∷ 255 ∷ 255 ∷ 255 ∷ 0 ∷ 0 ∷ 0 ∷ 0 ∷ 8 ∷ 153 ∷ 215 ∷ 118 ∷ []) ∷ []

-- beside a header whose checksum is 7, in a file of 100 bytes
abbrev pub footers : List (List ℕ)
footers =
    -- 2: nothing at all
    []
    -- 3: eight zeros
    ∷ (0 ∷ 0 ∷ 0 ∷ 0 ∷ 0 ∷ 0 ∷ 0 ∷ 0 ∷ [])
    -- 4: minimum 0
    ∷ (0 ∷ 0 ∷ 0 ∷ 0 ∷ 28 ∷ 223 ∷ 68 ∷ 33 ∷ [])
    -- 5: minimum 3
    ∷ (3 ∷ 0 ∷ 3 ∷ 0 ∷ 49 ∷ 35 ∷ 220 ∷ 24 ∷ [])
    -- 6: feature bit 0
    ∷ (1 ∷ 0 ∷ 1 ∷ 0 ∷ 1 ∷ 0 ∷ 0 ∷ 0 ∷ 0 ∷ 0 ∷ 0 ∷ 0 ∷ 160 ∷ 225 ∷ 24 ∷ 195 ∷ [])
    -- 7: at version 2 with minimum 1, a cluster record that ends with its link
    ∷ (2 ∷ 0 ∷ 1 ∷ 0 ∷ 0 ∷ 0 ∷ 0 ∷ 0 ∷ 0 ∷ 0 ∷ 0 ∷ 0 ∷ 7 ∷ 0 ∷ 0 ∷ 0 ∷ 248 ∷ 255 ∷ 255 ∷ 255 ∷ 0 ∷ 0 ∷ 0 ∷ 0 ∷ 248 ∷ 255 ∷ 255 ∷ 255 ∷ 0 ∷ 0 ∷ 0 ∷ 0 ∷ 212 ∷ 255 ∷ 255 ∷ 255 ∷ 1 ∷ 0 ∷ 0 ∷ 0 ∷ 36 ∷ 0 ∷ 0 ∷ 0 ∷ 0 ∷ 0 ∷ 0 ∷ 0 ∷ 0 ∷ 0 ∷ 0 ∷ 0 ∷ 0 ∷ 0 ∷ 0 ∷ 0 ∷ 0 ∷ 0 ∷ 0 ∷ 0 ∷ 0 ∷ 0 ∷ 0 ∷ 0 ∷ 0 ∷ 0 ∷ 0 ∷ 0 ∷ 0 ∷ 0 ∷ 0 ∷ 0 ∷ 0 ∷ 0 ∷ 0 ∷ 0 ∷ 248 ∷ 255 ∷ 255 ∷ 255 ∷ 0 ∷ 0 ∷ 0 ∷ 0 ∷ 99 ∷ 234 ∷ 125 ∷ 125 ∷ [])
    -- 8: a record where the first list is due
    ∷ (1 ∷ 0 ∷ 1 ∷ 0 ∷ 0 ∷ 0 ∷ 0 ∷ 0 ∷ 0 ∷ 0 ∷ 0 ∷ 0 ∷ 7 ∷ 0 ∷ 0 ∷ 0 ∷ 4 ∷ 0 ∷ 0 ∷ 0 ∷ 100 ∷ 136 ∷ 71 ∷ 0 ∷ [])
    -- 10: 1,025 clusters
    ∷ (1 ∷ 0 ∷ 1 ∷ 0 ∷ 0 ∷ 0 ∷ 0 ∷ 0 ∷ 0 ∷ 0 ∷ 0 ∷ 0 ∷ 7 ∷ 0 ∷ 0 ∷ 0 ∷ 248 ∷ 255 ∷ 255 ∷ 255 ∷ 0 ∷ 0 ∷ 0 ∷ 0 ∷ 248 ∷ 255 ∷ 255 ∷ 255 ∷ 0 ∷ 0 ∷ 0 ∷ 0 ∷ 248 ∷ 255 ∷ 255 ∷ 255 ∷ 1 ∷ 4 ∷ 0 ∷ 0 ∷ 6 ∷ 9 ∷ 31 ∷ 99 ∷ [])
    -- 11: a byte after the smallest footer, at version 1
    ∷ (1 ∷ 0 ∷ 1 ∷ 0 ∷ 0 ∷ 0 ∷ 0 ∷ 0 ∷ 0 ∷ 0 ∷ 0 ∷ 0 ∷ 7 ∷ 0 ∷ 0 ∷ 0 ∷ 248 ∷ 255 ∷ 255 ∷ 255 ∷ 0 ∷ 0 ∷ 0 ∷ 0 ∷ 248 ∷ 255 ∷ 255 ∷ 255 ∷ 0 ∷ 0 ∷ 0 ∷ 0 ∷ 248 ∷ 255 ∷ 255 ∷ 255 ∷ 0 ∷ 0 ∷ 0 ∷ 0 ∷ 248 ∷ 255 ∷ 255 ∷ 255 ∷ 0 ∷ 0 ∷ 0 ∷ 0 ∷ 0 ∷ 190 ∷ 131 ∷ 173 ∷ 54 ∷ [])
    -- 12: bit 61 of an entry count
    ∷ (1 ∷ 0 ∷ 1 ∷ 0 ∷ 0 ∷ 0 ∷ 0 ∷ 0 ∷ 0 ∷ 0 ∷ 0 ∷ 0 ∷ 7 ∷ 0 ∷ 0 ∷ 0 ∷ 248 ∷ 255 ∷ 255 ∷ 255 ∷ 0 ∷ 0 ∷ 0 ∷ 0 ∷ 248 ∷ 255 ∷ 255 ∷ 255 ∷ 0 ∷ 0 ∷ 0 ∷ 0 ∷ 212 ∷ 255 ∷ 255 ∷ 255 ∷ 1 ∷ 0 ∷ 0 ∷ 0 ∷ 36 ∷ 0 ∷ 0 ∷ 0 ∷ 0 ∷ 0 ∷ 0 ∷ 0 ∷ 0 ∷ 0 ∷ 0 ∷ 0 ∷ 0 ∷ 0 ∷ 0 ∷ 0 ∷ 0 ∷ 0 ∷ 0 ∷ 32 ∷ 0 ∷ 0 ∷ 0 ∷ 0 ∷ 0 ∷ 0 ∷ 0 ∷ 0 ∷ 0 ∷ 0 ∷ 0 ∷ 0 ∷ 0 ∷ 0 ∷ 0 ∷ 0 ∷ 97 ∷ 219 ∷ 92 ∷ 232 ∷ [])
    -- 16: the header checksum 8
    ∷ (1 ∷ 0 ∷ 1 ∷ 0 ∷ 0 ∷ 0 ∷ 0 ∷ 0 ∷ 0 ∷ 0 ∷ 0 ∷ 0 ∷ 8 ∷ 0 ∷ 0 ∷ 0 ∷ 93 ∷ 19 ∷ 104 ∷ 26 ∷ [])
    -- 17: an extension header
    ∷ (1 ∷ 0 ∷ 1 ∷ 0 ∷ 0 ∷ 0 ∷ 0 ∷ 0 ∷ 0 ∷ 0 ∷ 0 ∷ 0 ∷ 7 ∷ 0 ∷ 0 ∷ 0 ∷ 248 ∷ 255 ∷ 255 ∷ 255 ∷ 1 ∷ 0 ∷ 0 ∷ 0 ∷ 162 ∷ 108 ∷ 240 ∷ 105 ∷ [])
    -- 18: a metadata link one byte past the file
    ∷ (1 ∷ 0 ∷ 1 ∷ 0 ∷ 0 ∷ 0 ∷ 0 ∷ 0 ∷ 0 ∷ 0 ∷ 0 ∷ 0 ∷ 7 ∷ 0 ∷ 0 ∷ 0 ∷ 248 ∷ 255 ∷ 255 ∷ 255 ∷ 0 ∷ 0 ∷ 0 ∷ 0 ∷ 248 ∷ 255 ∷ 255 ∷ 255 ∷ 0 ∷ 0 ∷ 0 ∷ 0 ∷ 248 ∷ 255 ∷ 255 ∷ 255 ∷ 0 ∷ 0 ∷ 0 ∷ 0 ∷ 232 ∷ 255 ∷ 255 ∷ 255 ∷ 1 ∷ 0 ∷ 0 ∷ 0 ∷ 1 ∷ 0 ∷ 0 ∷ 0 ∷ 1 ∷ 0 ∷ 0 ∷ 0 ∷ 100 ∷ 0 ∷ 0 ∷ 0 ∷ 0 ∷ 0 ∷ 0 ∷ 0 ∷ 125 ∷ 42 ∷ 222 ∷ 147 ∷ [])
    -- 19: a first cluster that starts at entry 1
    ∷ (1 ∷ 0 ∷ 1 ∷ 0 ∷ 0 ∷ 0 ∷ 0 ∷ 0 ∷ 0 ∷ 0 ∷ 0 ∷ 0 ∷ 7 ∷ 0 ∷ 0 ∷ 0 ∷ 248 ∷ 255 ∷ 255 ∷ 255 ∷ 0 ∷ 0 ∷ 0 ∷ 0 ∷ 248 ∷ 255 ∷ 255 ∷ 255 ∷ 0 ∷ 0 ∷ 0 ∷ 0 ∷ 212 ∷ 255 ∷ 255 ∷ 255 ∷ 1 ∷ 0 ∷ 0 ∷ 0 ∷ 36 ∷ 0 ∷ 0 ∷ 0 ∷ 1 ∷ 0 ∷ 0 ∷ 0 ∷ 0 ∷ 0 ∷ 0 ∷ 0 ∷ 0 ∷ 0 ∷ 0 ∷ 0 ∷ 0 ∷ 0 ∷ 0 ∷ 0 ∷ 0 ∷ 0 ∷ 0 ∷ 0 ∷ 0 ∷ 0 ∷ 0 ∷ 0 ∷ 0 ∷ 0 ∷ 0 ∷ 0 ∷ 0 ∷ 0 ∷ 0 ∷ 0 ∷ 49 ∷ 236 ∷ 37 ∷ 55 ∷ []) ∷ []

-- beside a header with a field and a column of 64 bits on it
abbrev pub one_column : Header
one_column =
    record {
      texts = record { name = record { place = 0; len = 0 }; description = record { place = 0; len = 0 } };
      lists = record {
        fields_at = 0;
        fields =
            record {
              head = record { field_version = 0; type_version = 0; parent = record { 0 = 0 }; role = 0; flags = 0; repetition = 0 };
              texts = record {
                name = record { place = 0; len = 0 };
                type_name = record { place = 0; len = 0 };
                type_alias = record { place = 0; len = 0 };
                description = record { place = 0; len = 0 };
              };
            } ∷ [];
        columns_at = 0;
        columns = record { column_type = 1; bits = 64; field = record { 0 = 0 }; flags = 0 } ∷ [];
        aliases_at = 0;
        aliases = [];
      };
    }

abbrev pub page_lists : List (List ℕ)
page_lists =
    -- 2: nothing at all
    []
    -- 3: eight zeros
    ∷ (0 ∷ 0 ∷ 0 ∷ 0 ∷ 0 ∷ 0 ∷ 0 ∷ 0 ∷ [])
    -- 4: minimum 0
    ∷ (0 ∷ 0 ∷ 0 ∷ 0 ∷ 28 ∷ 223 ∷ 68 ∷ 33 ∷ [])
    -- 5: minimum 2
    ∷ (2 ∷ 0 ∷ 2 ∷ 0 ∷ 21 ∷ 117 ∷ 123 ∷ 185 ∷ [])
    -- 7: an empty payload
    ∷ (1 ∷ 0 ∷ 1 ∷ 0 ∷ 56 ∷ 137 ∷ 227 ∷ 128 ∷ [])
    -- 8: a record where the first list is due
    ∷ (1 ∷ 0 ∷ 1 ∷ 0 ∷ 4 ∷ 0 ∷ 0 ∷ 0 ∷ 5 ∷ 155 ∷ 182 ∷ 237 ∷ [])
    -- 10: 1,025 columns
    ∷ (1 ∷ 0 ∷ 1 ∷ 0 ∷ 248 ∷ 255 ∷ 255 ∷ 255 ∷ 1 ∷ 4 ∷ 0 ∷ 0 ∷ 8 ∷ 7 ∷ 31 ∷ 32 ∷ [])
    -- 11: a byte after the list, at version 1
    ∷ (1 ∷ 0 ∷ 1 ∷ 0 ∷ 240 ∷ 255 ∷ 255 ∷ 255 ∷ 1 ∷ 0 ∷ 0 ∷ 0 ∷ 248 ∷ 255 ∷ 255 ∷ 255 ∷ 0 ∷ 0 ∷ 0 ∷ 0 ∷ 0 ∷ 199 ∷ 164 ∷ 175 ∷ 89 ∷ [])
    -- 12: bit 31 of a page's first word
    ∷ (1 ∷ 0 ∷ 1 ∷ 0 ∷ 224 ∷ 255 ∷ 255 ∷ 255 ∷ 1 ∷ 0 ∷ 0 ∷ 0 ∷ 232 ∷ 255 ∷ 255 ∷ 255 ∷ 1 ∷ 0 ∷ 0 ∷ 0 ∷ 0 ∷ 0 ∷ 0 ∷ 128 ∷ 0 ∷ 0 ∷ 0 ∷ 0 ∷ 0 ∷ 0 ∷ 0 ∷ 0 ∷ 0 ∷ 0 ∷ 0 ∷ 0 ∷ 213 ∷ 75 ∷ 156 ∷ 173 ∷ [])
    -- 17: seven bytes for an element of 64 bits
    ∷ (1 ∷ 0 ∷ 1 ∷ 0 ∷ 224 ∷ 255 ∷ 255 ∷ 255 ∷ 1 ∷ 0 ∷ 0 ∷ 0 ∷ 232 ∷ 255 ∷ 255 ∷ 255 ∷ 1 ∷ 0 ∷ 0 ∷ 0 ∷ 1 ∷ 0 ∷ 0 ∷ 0 ∷ 7 ∷ 0 ∷ 0 ∷ 0 ∷ 0 ∷ 0 ∷ 0 ∷ 0 ∷ 0 ∷ 0 ∷ 0 ∷ 0 ∷ 220 ∷ 22 ∷ 6 ∷ 215 ∷ [])
    -- 18: a page one byte past the file
    ∷ (1 ∷ 0 ∷ 1 ∷ 0 ∷ 224 ∷ 255 ∷ 255 ∷ 255 ∷ 1 ∷ 0 ∷ 0 ∷ 0 ∷ 232 ∷ 255 ∷ 255 ∷ 255 ∷ 1 ∷ 0 ∷ 0 ∷ 0 ∷ 1 ∷ 0 ∷ 0 ∷ 0 ∷ 8 ∷ 0 ∷ 0 ∷ 0 ∷ 93 ∷ 0 ∷ 0 ∷ 0 ∷ 0 ∷ 0 ∷ 0 ∷ 0 ∷ 186 ∷ 111 ∷ 177 ∷ 107 ∷ [])
    -- 19: no column
    ∷ (1 ∷ 0 ∷ 1 ∷ 0 ∷ 248 ∷ 255 ∷ 255 ∷ 255 ∷ 0 ∷ 0 ∷ 0 ∷ 0 ∷ 177 ∷ 200 ∷ 170 ∷ 159 ∷ []) ∷ []

-- a page list that is accepted alone: a page of 3 elements
abbrev pub good_page_list : List ℕ
good_page_list =
    1 ∷ 0 ∷ 1 ∷ 0 ∷ 224 ∷ 255 ∷ 255 ∷ 255 ∷ 1 ∷ 0 ∷ 0 ∷ 0 ∷ 232 ∷ 255 ∷ 255 ∷ 255 ∷ 1 ∷ 0 ∷ 0 ∷ 0 ∷ 3 ∷ 0 ∷ 0 ∷ 0 ∷ 24 ∷ 0 ∷ 0 ∷ 0 ∷ 0 ∷ 0 ∷ 0 ∷ 0 ∷ 0 ∷ 0 ∷ 0 ∷ 0 ∷ 50 ∷ 65 ∷ 42 ∷ 46 ∷ []

-- the first number is that of any envelope above the ceiling
pub record EachGiven : Type 0 where
  pub in_headers : (long : List ℕ) → ceiling < length long → map (λ (e : List ℕ). number_of (header_of e)) (long ∷ headers) ≡ in_header
  -- 20 for an accepted header that has fields, where no byte is lent for their lines, and the header's numbers
  pub in_listings : (long : List ℕ) → ceiling < length long → map (λ (e : List ℕ). (reported 0 e).number) (vector_header ∷ long ∷ headers) ≡ with_room in_header
  pub in_footers : (long : List ℕ) → ceiling < length long → map (λ (g : List ℕ). number_of (footer_of 7 100 g)) (long ∷ footers) ≡ in_footer
  pub in_page_lists : (long : List ℕ) → ceiling < length long → map (λ (l : List ℕ). number_of (page_list_of one_column 3 100 l)) (long ∷ page_lists) ≡ in_page_list
  -- 26 for a row with another checksum, 7, and the page list's numbers for rows with its own
  pub in_pairings : (long : List ℕ) → ceiling < length long
      → number_of (paired_of one_column 3 7 100 good_page_list) ∷ map (λ (l : List ℕ). number_of (paired_of one_column 3 (checksum_of l) 100 l)) (long ∷ page_lists) ≡ in_pairing
