-- Which refusals each reader can give, by envelope and number; and that the one number of a call tells them.
use Rattle.std.specs.Prelude.{ℕ, ◌/◌, ◌%◌, List, [], ◌∷◌, Bool, true, false, ◌≡◌, eqb}
use Rattle.numbers.specs.Choice.{pick, both}
use Rattle.wire.specs.Reading.{refused}
use Rattle.wire.specs.declared.Fault.{Fault}
use Rattle.outcome.specs.Outcome.{Outcome, is_accepted, code_of}
use Rattle.header.specs.Header.{Header}
use Rattle.header.specs.Tables.{header_of, outcome_of, Answered}
use Rattle.header.specs.Answer.{HeaderAnswer}
use Rattle.moves.specs.Moves.{outcome_of as movesOutcome, Answered as AnsweredMoves}
use Rattle.moves.specs.Answer.{MovesAnswer}
use Rattle.listing.specs.Answers.{outcome_of as listOutcome, Answered as AnsweredList}
use Rattle.listing.specs.Answer.{ListAnswer}
use Rattle.footer.specs.Footer.{footer_of}
use Rattle.footer.specs.Tables.{footer_beside, outcome_of as footerOutcome, Answered as AnsweredFooter}
use Rattle.footer.specs.Answer.{FooterAnswer}
use Rattle.page_list.specs.PageList.{page_list_of}
use Rattle.page_list.specs.Tables.{page_list_beside, outcome_of as pageListOutcome, Answered as AnsweredPages}
use Rattle.page_list.specs.Answer.{PageListAnswer}
use Rattle.pairing.specs.Paired.{paired_of, paired_beside}

-- n is one of these numbers
unfoldable pub among : List ℕ → ℕ → Bool
among [] n = false
among (m ∷ ms) n = pick (eqb n m) true (among ms n)

-- The numbers that each envelope can be refused with.

abbrev pub in_header : List ℕ
in_header = 1 ∷ 2 ∷ 3 ∷ 4 ∷ 5 ∷ 6 ∷ 7 ∷ 8 ∷ 9 ∷ 10 ∷ 11 ∷ 12 ∷ 13 ∷ 14 ∷ 15 ∷ []

-- a footer has no strings, no column types, no numbers of fields or columns
abbrev pub in_footer : List ℕ
in_footer = 1 ∷ 2 ∷ 3 ∷ 4 ∷ 5 ∷ 6 ∷ 7 ∷ 8 ∷ 10 ∷ 11 ∷ 12 ∷ 16 ∷ 17 ∷ 18 ∷ 19 ∷ []

-- a page list has neither these nor feature words, and it names no header
abbrev pub in_page_list : List ℕ
in_page_list = 1 ∷ 2 ∷ 3 ∷ 4 ∷ 5 ∷ 7 ∷ 8 ∷ 10 ∷ 11 ∷ 12 ∷ 17 ∷ 18 ∷ 19 ∷ []

-- a page list that is read for a cluster's row can have another checksum than the row's
abbrev pub in_pairing : List ℕ
in_pairing = 26 ∷ in_page_list

unfoldable pub HeaderNumbers : Type 0
HeaderNumbers = (e : List ℕ) (f : Fault) → header_of e ≡ refused f → among in_header f.number ≡ true

unfoldable pub FooterNumbers : Type 0
FooterNumbers = (checksum file : ℕ) (g : List ℕ) (f : Fault) → footer_of checksum file g ≡ refused f → among in_footer f.number ≡ true

unfoldable pub PageListNumbers : Type 0
PageListNumbers = (h : Header) (entries file : ℕ) (l : List ℕ) (f : Fault) → page_list_of h entries file l ≡ refused f → among in_page_list f.number ≡ true

unfoldable pub PairingNumbers : Type 0
PairingNumbers =
    (h : Header) (entries checksum file : ℕ) (l : List ℕ) (f : Fault) → paired_of h entries checksum file l ≡ refused f → among in_pairing f.number ≡ true

-- The refusals of a call.

-- 20 besides, for the lent room
abbrev pub with_room : List ℕ → List ℕ
with_room numbers = 20 ∷ numbers

-- those of envelope 1, with these numbers
abbrev pub of_first : List ℕ → ℕ → ℕ → Bool
of_first numbers envelope number = both (eqb envelope 1) (among numbers number)

abbrev pub of_header : ℕ → ℕ → Bool
of_header = of_first (with_room in_header)

-- the call that counts moves is lent no table
abbrev pub of_moves : ℕ → ℕ → Bool
of_moves = of_first in_header

-- the header's, which needs no room, or those of envelope k, with these numbers
abbrev pub of_beside : ℕ → List ℕ → ℕ → ℕ → Bool
of_beside k numbers envelope number = pick (eqb envelope 1) (among in_header number) (both (eqb envelope k) (among (with_room numbers) number))

-- an acceptance, which has neither envelope nor number, or one of these refusals
abbrev pub possible : (ℕ → ℕ → Bool) → Outcome → Bool
possible refusals o = pick (is_accepted o) (eqb o.number 0) (refusals o.envelope o.number)

-- an outcome that is possible, which its one number tells: 0 for acceptance alone, and else the envelope times 256 and the number
pub record Told (refusals : ℕ → ℕ → Bool) (o : Outcome) : Type 0 where
  pub is_possible : possible refusals o ≡ true
  pub zero : eqb (code_of o) 0 ≡ is_accepted o
  pub envelope : code_of o / 256 ≡ o.envelope
  pub number : code_of o % 256 ≡ o.number

-- every call of each reader, of the call that counts moves and of the call that lists fields

unfoldable pub HeaderRefusals : Type 0
HeaderRefusals =
    (e f₀ f c₀ c a₀ a : List ℕ) (r : HeaderAnswer) → Answered (header_of e) f₀ f c₀ c a₀ a r → Told of_header (outcome_of r)

unfoldable pub MovesRefusals : Type 0
MovesRefusals = (e : List ℕ) (r : MovesAnswer) → AnsweredMoves (header_of e) r → Told of_moves (movesOutcome r)

-- a listing is refused as a header is: 20 is about the bytes that are lent for it
unfoldable pub ListRefusals : Type 0
ListRefusals = (e out₀ out : List ℕ) (r : ListAnswer) → AnsweredList e out₀ out r → Told of_header (listOutcome r)

unfoldable pub FooterRefusals : Type 0
FooterRefusals =
    (e g : List ℕ) (file : ℕ) (c₀ c m₀ m : List ℕ) (r : FooterAnswer) → AnsweredFooter (footer_beside e g file) c₀ c m₀ m r
    → Told (of_beside 2 in_footer) (footerOutcome r)

unfoldable pub PageListRefusals : Type 0
PageListRefusals =
    (e l : List ℕ) (entries file : ℕ) (p₀ p : List ℕ) (r : PageListAnswer) → AnsweredPages (page_list_beside e l entries file) p₀ p r
    → Told (of_beside 3 in_page_list) (pageListOutcome r)

unfoldable pub PairingRefusals : Type 0
PairingRefusals =
    (e l : List ℕ) (entries checksum file : ℕ) (p₀ p : List ℕ) (r : PageListAnswer) → AnsweredPages (paired_beside e l entries checksum file) p₀ p r
    → Told (of_beside 3 in_pairing) (pageListOutcome r)
