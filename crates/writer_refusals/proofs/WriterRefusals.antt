-- What a call of each writer can answer, and that the one number of its outcome tells it.
use Prim.Native.Nat.{ℕ}
use mathlib.Core.List.{List}
use mathlib.Core.Bool.{Bool, true, false}
use mathlib.Core.Path.{◌≡◌, refl, ap, ◌∙◌}
use lib.Dec.{eqb, leb}
use lib.ListN.{length}
use Rattle.numbers.specs.Choice.{pick}
use Rattle.wire.specs.Reading.{Step, found, refused}
use Rattle.wire.specs.declared.Fault.{Fault}
use Rattle.envelope.specs.Envelope.{checksum_of}
use Rattle.header.specs.Header.{Header}
use Rattle.header.specs.Tables.{header_of}
use Rattle.refusals.specs.Refusals.{among, in_header, HeaderNumbers, with_room, of_first, of_beside, possible}
use Rattle.refusals.proofs.Naming.{among_more}
use Rattle.refusals.proofs.HeaderNumbers.{header_numbers}
use Rattle.refusals.proofs.Refusals.{first_byte, beside_byte, told}
use Rattle.writing.specs.Piece.{Piece}
use Rattle.writing.specs.Rows.{header_rows, footer_rows, page_rows_in}
use Rattle.writing.specs.Footer.{footer_piece}
use Rattle.writing.specs.PageList.{page_list_piece}
use Rattle.writing.specs.Answers.{verdict, answer, beside_header, outcome_of}
use Rattle.writing.specs.Answer.{WriteAnswer}
use Rattle.writer_refusals.specs.WriterRefusals.{to_write_header, to_write_footer, to_write_page_list, HeaderWriterRefusals, FooterWriterRefusals, PageListWriterRefusals}
use Rattle.writer_refusals.proofs.Giving.{Gives}
use Rattle.writer_refusals.proofs.Numbers.{header_gives, footer_gives, page_list_gives}
use Rattle.std.specs.Prelude.{Ok, Err}

-- a piece as it is answered, where refusals of envelope k with these numbers are possible, and acceptance is
module _ (k : ℕ) (ns : List ℕ) (refusals : ℕ → ℕ → Bool) (own : (n : ℕ) → among (with_room ns) n ≡ true → possible refusals (outcome_of (Err (record { envelope = k; number = n }))) ≡ true) (room : ℕ) (x : Piece) where
  by_number : (b : Bool) → pick b true (among ns x.number) ≡ true → (c : Bool)
      → possible refusals (outcome_of (pick b (pick c (Ok x.long) (Err (record { envelope = k; number = 20 }))) (Err (record { envelope = k; number = x.number })))) ≡ true
  unfolding among
  by_number true e true = refl
  by_number true e false = own 20 refl
  by_number false e c = own x.number (among_more 20 ns x.number e)

  piece_possible : Gives ns x → possible refusals (outcome_of (verdict k room x)) ≡ true
  unfolding verdict among
  piece_possible g = by_number (eqb x.number 0) g.number (leb x.long room)

pub header_writer_refusals : HeaderWriterRefusals
unfolding HeaderWriterRefusals answer
header_writer_refusals strings texts fields columns aliases out₀ out r call =
    told (of_first (with_room to_write_header)) (first_byte (with_room to_write_header) refl) (outcome_of r)
    (ap (λ (y : WriteAnswer). possible (of_first (with_room to_write_header)) (outcome_of y)) call.answers
    ∙ piece_possible 1 to_write_header (of_first (with_room to_write_header)) (λ n h. h) (length out₀) _ (header_gives strings texts (header_rows fields columns aliases)))

-- beside a header, whose refusals come first
beside_possible : (k room : ℕ) (ns : List ℕ) → ((n : ℕ) → among (with_room ns) n ≡ true → possible (of_beside k ns) (outcome_of (Err (record { envelope = k; number = n }))) ≡ true) → (x : Header → Piece)
    → ((h : Header) → Gives ns (x h)) → (e : List ℕ) → possible (of_beside k ns) (outcome_of (answer k room (beside_header x (header_of e)))) ≡ true
unfolding answer HeaderNumbers
beside_possible k room ns own x gives e = by (header_of e) (header_numbers e)
  where
    by : (y : Step Header) → ((f : Fault) → y ≡ refused f → among in_header f.number ≡ true) → possible (of_beside k ns) (outcome_of (answer k room (beside_header x y))) ≡ true
    by (found h p) numbers = piece_possible k ns (of_beside k ns) own room (x h) (gives h)
    by (refused f) numbers = numbers f refl

pub footer_writer_refusals : FooterWriterRefusals
unfolding FooterWriterRefusals
footer_writer_refusals header file clusters metadata out₀ out r call =
    told (of_beside 2 to_write_footer) (beside_byte 2 to_write_footer refl) (outcome_of r)
    (ap (λ (y : WriteAnswer). possible (of_beside 2 to_write_footer) (outcome_of y)) call.answers
    ∙ beside_possible 2 (length out₀) to_write_footer (λ n h. h) (λ _. footer_piece (checksum_of header) file (footer_rows clusters metadata)) (λ _. footer_gives (checksum_of header) file (footer_rows clusters metadata)) header)

pub page_list_writer_refusals : PageListWriterRefusals
unfolding PageListWriterRefusals
page_list_writer_refusals header entries file pages out₀ out r call =
    told (of_beside 3 to_write_page_list) (beside_byte 3 to_write_page_list refl) (outcome_of r)
    (ap (λ (y : WriteAnswer). possible (of_beside 3 to_write_page_list) (outcome_of y)) call.answers
    ∙ beside_possible 3 (length out₀) to_write_page_list (λ n h. h) (λ h. page_list_piece h entries file (page_rows_in pages)) (λ h. page_list_gives h entries file (page_rows_in pages)) header)
