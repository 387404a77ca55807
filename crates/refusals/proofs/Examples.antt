-- The rules, computed on an envelope for each number.
use Prim.Native.Nat.{ℕ, ◌<◌}
use mathlib.Core.List.{List, [], ◌∷◌, map}
use mathlib.Core.Path.{◌≡◌, refl, sym, ap, ap₂, ◌∙◌}
use mathlib.Core.Bool.{Bool, true, false}
use native.Mathlib.Omega.{arith}
use borrow.Author.Tests.{leb-true, eqb-false}
use lib.Dec.{leb, eqb}
use lib.ListN.{length, drop}
use Rattle.numbers.specs.Choice.{pick}
use Rattle.numbers.specs.Numbers.{little}
use Rattle.checksum.specs.Crc.{shifted, bits, byte, fold, crc32}
use Rattle.wire.specs.Reading.{Step, found, refused, fault, number, judged, in_item}
use Rattle.wire.specs.declared.Kind.TheVariants.{Envelope}
use Rattle.text.specs.Strings.{string_of}
use Rattle.utf8.specs.WellFormed.{due, goes_on, well_formed}
use Rattle.frames.specs.Frames.{record_of, list_of, items, frame_size, record_head, list_stop, count_judged}
use Rattle.envelope.specs.Envelope.{ceiling, checksum_of, versioned, opened}
use Rattle.envelope.specs.Features.{features}
use Rattle.column_type.specs.Types.{known, width_of, widths}
use Rattle.records.specs.Records.{repetition, field_head, field_texts, field, column, alias, texts}
use Rattle.parents.specs.Parents.{meets, all_reach}
use Rattle.header.specs.Header.{Header, columns_after, aliases_after, lists, payload}
use Rattle.header.specs.Tables.{header_of, chained}
use Rattle.listing.specs.Answers.{answer, left, reported, outcome_of, Answered}
use Rattle.listing.specs.Samples.{vector_header}
use Rattle.listing.specs.Answer.{ListAnswer}
use Rattle.listing.proofs.Samples.{vector_listed}
use Rattle.links.specs.Links.{link}
use Rattle.clusters.specs.Clusters.{list_checksum, cluster, entries_of}
use Rattle.footer.specs.Footer.{this_build, footer_by_build, footer_of, payload as footer-payload}
use Rattle.page_list.specs.PageList.{page_list_of, summed}
use Rattle.column_pages.specs.ColumnPages.{payload as page-list-payload, pages_of}
use Rattle.pages.specs.Pages.{pages, page, elements_of}
use Rattle.totals.specs.Totals.{totals, total_of}
use Rattle.pairing.specs.Paired.{paired_of}
use Rattle.pairing.proofs.Pairs.{paired_its}
use Rattle.refusals.specs.Examples.{number_of, headers, footers, one_column, page_lists, good_page_list, EachGiven}
use Rattle.refusals.specs.Refusals.{among, in_header, with_room, in_footer, in_page_list}
use Rattle.refusals.proofs.Naming.{no}

above : (n most : ℕ) → most < n → leb n most ≡ false
above n most more = go (leb n most) refl
  where
    go : (b : Bool) → leb n most ≡ b → b ≡ false
    go true h = absurd (omega (arith, leb-true n most h))
    go false h = refl

-- an envelope above the ceiling
long_refused : (supported : ℕ) (e : List ℕ) → ceiling < length e → opened supported e ≡ refused (fault 1 Envelope 0)
unfolding opened
long_refused supported e more = rw (above (length e) ceiling more) refl

long_header : (e : List ℕ) → ceiling < length e → number_of (header_of e) ≡ 1
unfolding header_of versioned chained
long_header e more = rw (long_refused 1 e more) refl

long_footer : (e : List ℕ) → ceiling < length e → number_of (footer_of 7 100 e) ≡ 1
unfolding footer_by_build versioned
long_footer e more = rw (long_refused this_build e more) refl

long_page_list_lem : (e : List ℕ) → ceiling < length e → number_of (page_list_of one_column 3 100 e) ≡ 1
unfolding page_list_of versioned summed
long_page_list_lem e more = rw (long_refused 1 e more) refl

-- the others

header_examples : map (λ (e : List ℕ). number_of (header_of e)) headers ≡ drop 1 in_header
unfolding in_item versioned opened record_of list_of items number judged string_of well_formed goes_on due frame_size record_head list_stop count_judged little crc32 fold byte bits shifted features header_of chained payload texts lists columns_after aliases_after repetition field_head field_texts field column alias known width_of widths all_reach meets
header_examples = refl

-- a listing into no room

unlisted : (reported 0 vector_header).number ≡ 20
unlisted =
    let x = header_of vector_header in
    let call : Answered vector_header [] (left [] vector_header x) (answer 0 vector_header x) = record { answers = refl; reports = refl; bytes_are = refl } in
    ap (λ (r : ListAnswer). (outcome_of r).number) ((vector_listed [] (left [] vector_header x) (answer 0 vector_header x) call).1 (omega arith)).0

-- what is refused with a number is not listed, and refused with it
refused_listing : (e : List ℕ) (x : Step Header) → (number_of x ≡ 0 → ⊥) → (outcome_of (answer 0 e x)).number ≡ number_of x
unfolding answer
refused_listing e (found h p) some = absurd (some refl)
refused_listing e (refused f) some = refl

abbrev header_numbers : List (List ℕ) → List ℕ
header_numbers = map (λ e. number_of (header_of e))

abbrev list_numbers : List (List ℕ) → List ℕ
list_numbers = map (λ e. (reported 0 e).number)

refused_listings : (es : List (List ℕ)) → among (header_numbers es) 0 ≡ false → list_numbers es ≡ header_numbers es
unfolding among
refused_listings [] some = refl
refused_listings (e ∷ es) some = by (refused_listings es) (eqb 0 (number_of (header_of e))) refl some
  where
    by : (among (header_numbers es) 0 ≡ false → list_numbers es ≡ header_numbers es) → (b : Bool) → eqb 0 (number_of (header_of e)) ≡ b
        → pick b true (among (header_numbers es) 0) ≡ false → list_numbers (e ∷ es) ≡ header_numbers (e ∷ es)
    by later true z some = no (sym some)
    by later false z some = ap₂ ◌∷◌ (refused_listing e (header_of e) (λ y. eqb-false 0 (number_of (header_of e)) z (sym y))) (later some)

footer_examples : map (λ (g : List ℕ). number_of (footer_of 7 100 g)) footers ≡ drop 1 in_footer
unfolding in_item versioned opened record_of list_of items number judged frame_size record_head list_stop count_judged little crc32 fold byte bits shifted features footer_by_build footer-payload link list_checksum cluster entries_of
footer_examples = refl

page_list_examples : map (λ (l : List ℕ). number_of (page_list_of one_column 3 100 l)) page_lists ≡ drop 1 in_page_list
unfolding in_item versioned opened list_of items number judged frame_size list_stop count_judged little crc32 fold byte bits shifted page_list_of page-list-payload summed pages page pages_of totals total_of elements_of known
page_list_examples = refl

-- a page list for a row: with another checksum, and with its own, where it is as the reader has it

stale_example : number_of (paired_of one_column 3 7 100 good_page_list) ≡ 26
unfolding paired_of opened little crc32 fold byte bits shifted
stale_example = refl

paired_examples : (ls : List (List ℕ)) → map (λ (l : List ℕ). number_of (paired_of one_column 3 (checksum_of l) 100 l)) ls ≡ map (λ (l : List ℕ). number_of (page_list_of one_column 3 100 l)) ls
paired_examples ls i = map (λ (l : List ℕ). number_of (paired_its one_column 3 100 l i)) ls

headers_given : (long : List ℕ) → ceiling < length long → header_numbers (long ∷ headers) ≡ in_header
headers_given e more i = long_header e more i ∷ header_examples i

listings_given : (long : List ℕ) → ceiling < length long → list_numbers (vector_header ∷ long ∷ headers) ≡ with_room in_header
unfolding among
listings_given e more =
    let given = headers_given e more in
    ap₂ ◌∷◌ unlisted (refused_listings (e ∷ headers) (ap (λ (ns : List ℕ). among ns 0) given) ∙ given)

page_lists_given : (long : List ℕ) → ceiling < length long → map (λ (l : List ℕ). number_of (page_list_of one_column 3 100 l)) (long ∷ page_lists) ≡ in_page_list
page_lists_given l more i = long_page_list_lem l more i ∷ page_list_examples i

pub each_given : EachGiven
each_given =
    record {
      in_headers = headers_given;
      in_listings = listings_given;
      in_footers = λ g more i. long_footer g more i ∷ footer_examples i;
      in_page_lists = page_lists_given;
      in_pairings = λ l more. ap₂ ◌∷◌ stale_example (paired_examples (l ∷ page_lists) ∙ page_lists_given l more);
    }
