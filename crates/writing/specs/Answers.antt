-- What a writer answers, and what the lent bytes then hold.
use Rattle.std.specs.Prelude.{ℕ, List, [], ◌∷◌, Bool, ◌≡◌, length, leb, eqb}
use Rattle.numbers.specs.Choice.{pick, both}
use Rattle.numbers.specs.Rows.{over}
use Rattle.wire.specs.Reading.{Step, found, refused}
use Rattle.outcome.specs.Outcome.{Outcome, accepted_with, refused_in}
use Rattle.envelope.specs.Envelope.{checksum_of}
use Rattle.header.specs.Header.{Header}
use Rattle.header.specs.Tables.{header_of}
use Rattle.header.specs.Beside.{Beside, read, refusal}
use Rattle.records.specs.declared.HeaderTexts.{HeaderTexts}
use Rattle.writing.specs.Piece.{Piece}
use Rattle.writing.specs.Rows.{header_rows, footer_rows, page_rows_in}
use Rattle.writing.specs.Header.{header_piece}
use Rattle.writing.specs.Footer.{footer_piece}
use Rattle.writing.specs.PageList.{page_list_piece}
use Rattle.writing.specs.Answer.{WriteAnswer}
use Rattle.std.specs.Prelude.{Ok, Err}

-- a piece is written: nothing of it is refused, and so many lent bytes are enough
abbrev pub is_written : ℕ → Piece → Bool
is_written room x = both (eqb x.number 0) (leb x.long room)

-- a piece that is written as envelope number k: room is the last to be tested
unfoldable pub verdict : ℕ → ℕ → Piece → WriteAnswer
verdict k room x = pick (eqb x.number 0) (pick (leb x.long room) (Ok x.long) (Err (record { envelope = k; number = 20 }))) (Err (record { envelope = k; number = x.number }))

-- the answer, for so many lent bytes; what is written beside a header has the header's refusal first
unfoldable pub answer : ℕ → ℕ → Beside Piece → WriteAnswer
answer k room (read x) = verdict k room x
answer k room (refusal envelope f) = Err (record { envelope = envelope; number = f.number })

-- the lent bytes after the call: the bytes in front where the piece is written, else as they were
unfoldable pub left : List ℕ → Beside Piece → List ℕ
left old (read x) = pick (is_written (length old) x) (over x.bytes old) old
left old (refusal envelope f) = old

-- the piece that is to be written beside a header: the header's refusal first
abbrev pub beside_header : (Header → Piece) → Step Header → Beside Piece
beside_header x (found h p) = read (x h)
beside_header x (refused f) = refusal 1 f

-- what each writer writes, by what it is given

abbrev pub header_to_write : List ℕ → HeaderTexts → List ℕ → List ℕ → List ℕ → Beside Piece
header_to_write strings texts fields columns aliases = read (header_piece strings texts (header_rows fields columns aliases))

abbrev pub footer_to_write : List ℕ → ℕ → List ℕ → List ℕ → Beside Piece
footer_to_write header file clusters metadata = beside_header (λ _. footer_piece (checksum_of header) file (footer_rows clusters metadata)) (header_of header)

abbrev pub page_list_to_write : List ℕ → ℕ → ℕ → List ℕ → Beside Piece
page_list_to_write header entries file pages = beside_header (λ h. page_list_piece h entries file (page_rows_in pages)) (header_of header)

-- the answer in document 01's terms: the envelope and the number of a refusal, and how many bytes were written
abbrev pub outcome_of : WriteAnswer → Outcome
outcome_of (Ok n) = accepted_with (n ∷ [])
outcome_of (Err why) = refused_in why.envelope why.number 1

-- the outcome that is due, for so many lent bytes
abbrev pub reported : ℕ → ℕ → Beside Piece → Outcome
reported k room x = outcome_of (answer k room x)

-- all that a call leaves that writes envelope number k
pub record Answered (k : ℕ) (x : Beside Piece) (out₀ out : List ℕ) (r : WriteAnswer) : Type 0 where
  pub answers : r ≡ answer k (length out₀) x
  pub reports : outcome_of r ≡ reported k (length out₀) x
  pub bytes_are : out ≡ left out₀ x
