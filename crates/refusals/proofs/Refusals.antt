-- What a call of each reader can answer, and that the one number of its outcome tells it.
use Prim.Native.Nat.{ℕ, ◌<◌}
use mathlib.Core.Path.{◌≡◌, refl, sym, ap, ◌∙◌}
use mathlib.Core.Bool.{Bool, true, false}
use mathlib.Core.List.{List, [], ◌∷◌}
use native.Mathlib.Omega.{arith}
use lib.Dec.{eqb, ltb, leb}
use lib.ListN.{length}
use borrow.Author.Tests.{eqb-true, eqb-false, eq-eqb, ne_eqb, ltb-true}
use Rattle.numbers.specs.Choice.{pick, both}
use Rattle.wire.specs.Reading.{Step, found, refused}
use Rattle.wire.specs.declared.Fault.{Fault}
use Rattle.outcome.specs.Outcome.{Outcome, is_accepted, code_of, CodeTells}
use Rattle.outcome.proofs.Outcomes.{code_tells}
use Rattle.envelope.specs.Envelope.{checksum_of}
use Rattle.header.specs.Header.{Header}
use Rattle.header.specs.Beside.{Beside, read, refusal, in_envelope, beside}
use Rattle.header.specs.Tables.{header_of, answer, outcome_of, room_for}
use Rattle.header.specs.Answer.{HeaderAnswer}
use Rattle.moves.specs.Moves.{answer as movesAnswer, outcome_of as movesOutcome}
use Rattle.moves.specs.Answer.{MovesAnswer}
use Rattle.listing.specs.Lines.{listing}
use Rattle.listing.specs.Answers.{fitted, answer as listAnswer, outcome_of as listOutcome}
use Rattle.listing.specs.Answer.{ListAnswer}
use Rattle.footer.specs.Footer.{Footer, footer_of}
use Rattle.footer.specs.Tables.{footer_beside, beside_by_build, answer as footerAnswer, outcome_of as footerOutcome, room_for as footerRoom}
use Rattle.footer.specs.Answer.{FooterAnswer}
use Rattle.column_pages.specs.ColumnPages.{pages_of}
use Rattle.page_list.specs.PageList.{page_list_of}
use Rattle.page_list.specs.Tables.{page_list_beside, answer as pageListAnswer, outcome_of as pageListOutcome, room_for as pageListRoom, Answered as AnsweredPages}
use Rattle.page_list.specs.Answer.{PageListAnswer}
use Rattle.rows.specs.declared.PageRow.{PageRow}
use Rattle.pairing.specs.Paired.{paired_of, paired_beside}
use Rattle.refusals.specs.Refusals.{among, in_header, in_footer, in_page_list, in_pairing, HeaderNumbers, FooterNumbers, PageListNumbers, PairingNumbers, with_room, of_first, of_header, of_moves, of_beside, possible, Told, HeaderRefusals, MovesRefusals, ListRefusals, FooterRefusals, PageListRefusals, PairingRefusals}
use Rattle.refusals.proofs.Naming.{no, among_more}
use Rattle.refusals.proofs.HeaderNumbers.{header_numbers}
use Rattle.refusals.proofs.FooterNumbers.{footer_numbers}
use Rattle.refusals.proofs.PageListNumbers.{page_list_numbers}
use Rattle.refusals.proofs.PairingNumbers.{pairing_numbers}
use Rattle.std.specs.Prelude.{Ok, Err}

-- the numbers that are listed have one byte

abbrev pub all_below : ℕ → List ℕ → Bool
all_below k [] = true
all_below k (m ∷ ms) = both (ltb m k) (all_below k ms)

among_below : (k : ℕ) (ns : List ℕ) (n : ℕ) → all_below k ns ≡ true → among ns n ≡ true → n < k
unfolding among
among_below k [] n h a = no a
among_below k (m ∷ ms) n h a = by (among_below k ms n) (ltb m k) refl h (eqb n m) refl a
  where
    by : (all_below k ms ≡ true → among ms n ≡ true → n < k) → (b : Bool) → ltb m k ≡ b → both b (all_below k ms) ≡ true → (c : Bool) → eqb n m ≡ c
        → pick c true (among ms n) ≡ true → n < k
    by later true l h true e a = omega (arith, eqb-true n m e, ltb-true m k l)
    by later true l h false e a = later h a
    by later false l h c e a = no h

-- refusals whose numbers have one byte
abbrev pub OneByte : (ℕ → ℕ → Bool) → Type 0
OneByte refusals = (envelope number : ℕ) → refusals envelope number ≡ true → number < 256

pub first_byte : (numbers : List ℕ) → all_below 256 numbers ≡ true → OneByte (of_first numbers)
first_byte numbers few envelope number h = by (eqb envelope 1) h
  where
    by : (b : Bool) → both b (among numbers number) ≡ true → number < 256
    by true h = among_below 256 numbers number few h
    by false h = no h

pub beside_byte : (k : ℕ) (numbers : List ℕ) → all_below 256 numbers ≡ true → OneByte (of_beside k numbers)
beside_byte k numbers few envelope number h = by (eqb envelope 1) (eqb envelope k) h
  where
    by : (b c : Bool) → pick b (among in_header number) (both c (among (with_room numbers) number)) ≡ true → number < 256
    by true c h = among_below 256 in_header number refl h
    by false true h = among_below 256 (with_room numbers) number few h
    by false false h = no h

-- a possible outcome is told by its one number
pub told : (refusals : ℕ → ℕ → Bool) → OneByte refusals → (o : Outcome) → possible refusals o ≡ true → Told refusals o
unfolding CodeTells
told refusals byte o h = by (is_accepted o) refl h
  where
    by : (b : Bool) → is_accepted o ≡ b → pick b (eqb o.number 0) (refusals o.envelope o.number) ≡ true → Told refusals o
    by true e p =
        let zero = eqb-true o.envelope 0 e in
        let none = eqb-true o.number 0 p in
        let both_told = code_tells o (omega arith) in
        record { is_possible = h; zero = eq-eqb (code_of o) 0 (omega arith) ∙ sym e; envelope = both_told.0; number = both_told.1 }
    by false e p =
        let some : o.envelope ≡ 0 → ⊥ = eqb-false o.envelope 0 e in
        let both_told = code_tells o (byte o.envelope o.number p) in
        record { is_possible = h; zero = ne_eqb (code_of o) 0 (λ z. some (omega arith)) ∙ sym e; envelope = both_told.0; number = both_told.1 }

-- headers

header_possible : (f c a : ℕ) (e : List ℕ) → possible of_header (outcome_of (answer f c a (header_of e))) ≡ true
unfolding answer HeaderNumbers among
header_possible f c a e = by (header_of e) (header_numbers e)
  where
    room : (b : Bool) (h : Header) → possible of_header (outcome_of (pick b (Ok (record { texts = h.texts; fields = length h.lists.fields; columns = length h.lists.columns; aliases = length h.lists.aliases })) (Err 20))) ≡ true
    room true h = refl
    room false h = refl

    by : (x : Step Header) → ((g : Fault) → x ≡ refused g → among in_header g.number ≡ true) → possible of_header (outcome_of (answer f c a x)) ≡ true
    by (found h p) numbers = room (room_for f c a h.lists) h
    by (refused g) numbers = among_more 20 in_header g.number (numbers g refl)

pub header_refusals : HeaderRefusals
unfolding HeaderRefusals
header_refusals e f₀ f c₀ c a₀ a r call =
    told of_header (first_byte (with_room in_header) refl) (outcome_of r) (ap (λ (y : HeaderAnswer). possible of_header (outcome_of y)) call.answers ∙ header_possible (length f₀) (length c₀) (length a₀) e)

-- moves

moves_possible : (x : Step Header) → ((g : Fault) → x ≡ refused g → among in_header g.number ≡ true) → possible of_moves (movesOutcome (movesAnswer x)) ≡ true
unfolding movesAnswer
moves_possible (found h p) numbers = refl
moves_possible (refused g) numbers = numbers g refl

pub moves_refusals : MovesRefusals
unfolding MovesRefusals HeaderNumbers
moves_refusals e r call =
    told of_moves (first_byte in_header refl) (movesOutcome r)
    (ap (λ (y : MovesAnswer). possible of_moves (movesOutcome y)) call.answers ∙ moves_possible (header_of e) (header_numbers e))

-- listings

list_possible : (room : ℕ) (e : List ℕ) → possible of_header (listOutcome (listAnswer room e (header_of e))) ≡ true
unfolding listAnswer fitted HeaderNumbers among
list_possible room e = by (header_of e) (header_numbers e)
  where
    fits : (b : Bool) (n : ℕ) → possible of_header (listOutcome (pick b (Ok n) (Err 20))) ≡ true
    fits true n = refl
    fits false n = refl

    by : (x : Step Header) → ((g : Fault) → x ≡ refused g → among in_header g.number ≡ true) → possible of_header (listOutcome (listAnswer room e x)) ≡ true
    by (found h p) numbers = let bytes = listing e h.lists in fits (leb (length bytes) room) (length bytes)
    by (refused g) numbers = among_more 20 in_header g.number (numbers g refl)

pub list_refusals : ListRefusals
unfolding ListRefusals
list_refusals e out₀ out r call =
    told of_header (first_byte (with_room in_header) refl) (listOutcome r) (ap (λ (y : ListAnswer). possible of_header (listOutcome y)) call.answers ∙ list_possible (length out₀) e)

-- what is read beside a header: by the header's refusal, a refusal of its own, and what was read
pub beside_any : {A : Type 0} (P : Beside A → Type 0) (k : ℕ) (ns : List ℕ) (r : Header → Step A) → ((h : Header) (f : Fault) → r h ≡ refused f → among ns f.number ≡ true)
    → ((a : A) → P (read a)) → ((f : Fault) → among in_header f.number ≡ true → P (refusal 1 f)) → ((f : Fault) → among ns f.number ≡ true → P (refusal k f))
    → (e : List ℕ) → P (beside k r (header_of e))
unfolding HeaderNumbers
beside_any {A} P k ns r numbers reads first own e = by (header_of e) (header_numbers e)
  where
    inner : (x : Step A) → ((f : Fault) → x ≡ refused f → among ns f.number ≡ true) → P (in_envelope k x)
    inner (found a p) n = reads a
    inner (refused f) n = own f (n f refl)

    by : (x : Step Header) → ((f : Fault) → x ≡ refused f → among in_header f.number ≡ true) → P (beside k r x)
    by (found h p) n = inner (r h) (numbers h)
    by (refused f) n = first f (n f refl)

-- footers

footer_possible : (c m : ℕ) (e g : List ℕ) (file : ℕ) → possible (of_beside 2 in_footer) (footerOutcome (footerAnswer c m (footer_beside e g file))) ≡ true
unfolding beside_by_build footerAnswer FooterNumbers among
footer_possible c m e g file =
    beside_any (λ y. possible (of_beside 2 in_footer) (footerOutcome (footerAnswer c m y)) ≡ true) 2 in_footer (λ _. footer_of (checksum_of e) file g) (λ _. footer_numbers (checksum_of e) file g)
    (λ f. room (footerRoom c m f) f) (λ f h. h) (λ f h. among_more 20 in_footer f.number h) e
  where
    room : (b : Bool) (f : Footer) → possible (of_beside 2 in_footer) (footerOutcome (pick b (Ok (record { clusters = length f.clusters; metadata = length f.metadata })) (Err (record { envelope = 2; number = 20 })))) ≡ true
    room true f = refl
    room false f = refl

pub footer_refusals : FooterRefusals
unfolding FooterRefusals
footer_refusals e g file c₀ c m₀ m r call =
    told (of_beside 2 in_footer) (beside_byte 2 in_footer refl) (footerOutcome r)
    (ap (λ (y : FooterAnswer). possible (of_beside 2 in_footer) (footerOutcome y)) call.answers ∙ footer_possible (length c₀) (length m₀) e g file)

-- page lists, alone and for a cluster's row: every call that reads one beside a header, with these numbers

module _ (ns : List ℕ) (few : all_below 256 ns ≡ true) (r : Header → Step (List (List PageRow))) (numbers : (h : Header) (f : Fault) → r h ≡ refused f → among ns f.number ≡ true) (e : List ℕ) where
  pages_possible : (n : ℕ) → possible (of_beside 3 ns) (pageListOutcome (pageListAnswer n (beside 3 r (header_of e)))) ≡ true
  unfolding pageListAnswer among
  pages_possible n =
      beside_any (λ y. possible (of_beside 3 ns) (pageListOutcome (pageListAnswer n y)) ≡ true) 3 ns r numbers
      (λ pss. room (pageListRoom n pss) pss) (λ f h. h) (λ f h. among_more 20 ns f.number h) e
    where
      room : (b : Bool) (pss : List (List PageRow)) → possible (of_beside 3 ns) (pageListOutcome (pick b (Ok (pages_of pss)) (Err (record { envelope = 3; number = 20 })))) ≡ true
      room true pss = refl
      room false pss = refl

  pages_told : (p₀ p : List ℕ) (a : PageListAnswer) → AnsweredPages (beside 3 r (header_of e)) p₀ p a → Told (of_beside 3 ns) (pageListOutcome a)
  pages_told p₀ p a call =
      told (of_beside 3 ns) (beside_byte 3 ns few) (pageListOutcome a)
      (ap (λ (y : PageListAnswer). possible (of_beside 3 ns) (pageListOutcome y)) call.answers ∙ pages_possible (length p₀))

pub page_list_refusals : PageListRefusals
unfolding PageListRefusals PageListNumbers page_list_beside
page_list_refusals e l entries file = pages_told in_page_list refl (λ h. page_list_of h entries file l) (λ h. page_list_numbers h entries file l) e

pub pairing_refusals : PairingRefusals
unfolding PairingRefusals PairingNumbers paired_beside
pairing_refusals e l entries checksum file = pages_told in_pairing refl (λ h. paired_of h entries checksum file l) (λ h. pairing_numbers h entries checksum file l) e
