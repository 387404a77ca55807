-- Where something does not fit its place, what stands up to that place decides alone: tables that agree up to it get the same number.
use Rattle.std.specs.Prelude.{ℕ, ◌≤◌, List, ◌∷◌, ◌++◌, true, false, ◌≡◌, length}
use Rattle.envelope.specs.Envelope.{ceiling}
use Rattle.records.specs.declared.HeaderTexts.{HeaderTexts}
use Rattle.header.specs.Header.{Header}
use Rattle.footer.specs.Footer.{Footer}
use Rattle.writing.specs.Piece.{Place, Piece, first_of}
use Rattle.writing.specs.Rows.{HeaderRows}
use Rattle.writing.specs.Header.{payload_piece, header_piece}
use Rattle.writing.specs.Footer.{footer_payload_piece, carries_for, all_as_carried, footer_piece}
use Rattle.writing.specs.PageList.{page_list_payload_piece, in_column_order, page_list_piece}
use Rattle.writing.specs.declared.PageWords.{PageWords}

-- a payload's number is the first refusal of what is to stand in it, front to back

pub record FrontToBack : Type 0 where
  pub header : (strings : List ℕ) (named : HeaderTexts) (t : HeaderRows) → (payload_piece strings named t).number ≡ first_of (payload_piece strings named t).places
  pub footer : (checksum file : ℕ) (f : Footer)
      → (footer_payload_piece (carries_for f.clusters) checksum file f).number ≡ first_of (footer_payload_piece (carries_for f.clusters) checksum file f).places
  pub page_list : (file : ℕ) (bits : List ℕ) (pss : List (List PageWords)) → (page_list_payload_piece file bits pss).number ≡ first_of (page_list_payload_piece file bits pss).places

-- two envelopes have the same to write up to a place where it does not fit; neither is too long
pub record AgreeUpTo (x y : Piece) : Type 0 where
  pub before : List Place
  pub at : Place
  pub unfit : at.fits ≡ false
  pub after_first : List Place
  pub after_second : List Place
  pub first : x.places ≡ before ++ (at ∷ after_first)
  pub second : y.places ≡ before ++ (at ∷ after_second)
  pub first_short : x.long ≤ ceiling
  pub second_short : y.long ≤ ceiling

unfoldable pub HeaderUpTo : Type 0
HeaderUpTo =
    (strings strings' : List ℕ) (named named' : HeaderTexts) (t t' : HeaderRows) → AgreeUpTo (header_piece strings named t) (header_piece strings' named' t')
    → (header_piece strings named t).number ≡ (header_piece strings' named' t').number

-- footers none of which has mixed rows
unfoldable pub FooterUpTo : Type 0
FooterUpTo =
    (checksum checksum' file file' : ℕ) (f f' : Footer) → all_as_carried (carries_for f.clusters) f.clusters ≡ true
    → all_as_carried (carries_for f'.clusters) f'.clusters ≡ true → AgreeUpTo (footer_piece checksum file f) (footer_piece checksum' file' f')
    → (footer_piece checksum file f).number ≡ (footer_piece checksum' file' f').number

-- page lists whose rows stand in the order of their columns
unfoldable pub PageListUpTo : Type 0
PageListUpTo =
    (h h' : Header) (entries entries' file file' : ℕ) (rows rows' : List PageWords) → in_column_order (length h.lists.columns) 0 rows ≡ true
    → in_column_order (length h'.lists.columns) 0 rows' ≡ true → AgreeUpTo (page_list_piece h entries file rows) (page_list_piece h' entries' file' rows')
    → (page_list_piece h entries file rows).number ≡ (page_list_piece h' entries' file' rows').number
