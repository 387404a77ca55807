-- Payloads are refused front to back, so that nothing behind a place that does not fit has a say.
use Prim.Native.Nat.{ℕ, zero, suc, ◌+◌, ◌≤◌}
use mathlib.Core.List.{List, [], ◌∷◌, ◌++◌}
use mathlib.Core.Bool.{true, false}
use mathlib.Core.Path.{◌≡◌, sym, ap, ◌∙◌, subst}
use lib.ListN.{length}
use native.Mathlib.Omega.{arith}
use borrow.Author.Tests.{le-leb}
use Rattle.numbers.specs.Lists.{Each}
use Rattle.envelope.specs.Envelope.{ceiling}
use Rattle.header.specs.Header.{Header}
use Rattle.footer.specs.Footer.{Footer}
use Rattle.column_pages.specs.ColumnPages.{bits_of}
use Rattle.tree.specs.Spelling.{footer_version}
use Rattle.writing.specs.Piece.{Place, Piece, first, first_of, tested_first, tested_last, enveloped}
use Rattle.writing.specs.Header.{payload_piece, chains, header_piece}
use Rattle.writing.specs.Footer.{footer_payload_piece, carries_for, all_as_carried, footer_piece}
use Rattle.writing.specs.PageList.{by_column, in_column_order, page_list_payload_piece, counting_all, page_list_piece}
use Rattle.writing.specs.declared.PageWords.{PageWords}
use Rattle.writing.specs.UpTo.{FrontToBack, AgreeUpTo, HeaderUpTo, FooterUpTo, PageListUpTo}
use Rattle.writing.proofs.Items.{first_alone, first_nonzero}
use Rattle.writing.proofs.Sure.{Outside, Sure, first_of_join}
use Rattle.writing.proofs.HeaderBack.{payload_sure}
use Rattle.writing.proofs.FooterBack.{payload_sure as footer-sure}
use Rattle.writing.proofs.PageListBack.{payload_sure as pages-sure, ordered_sure}

pub front_to_back : FrontToBack
front_to_back =
    record {
      header = λ strings named t. (payload_sure strings named t).order;
      footer = λ checksum file f. (footer-sure (carries_for f.clusters) checksum file f).order;
      page_list = λ file bits pss. (pages-sure file bits pss).order;
    }

there : (before : List Place) (at : Place) (rest : List Place) → Each Outside (before ++ (at ∷ rest)) → Outside at
there [] at rest each = each.0
there (p ∷ ps) at rest each = there ps at rest each.1

-- the number of places up to one that does not fit, whatever comes behind
decided : (before : List Place) (at : Place) (rest : List Place) → (at.number ≡ 0 → ⊥) → first_of (before ++ (at ∷ rest)) ≡ first (first_of before) at.number
decided before at rest bad = first_of_join before (at ∷ rest) ∙ ap (first (first_of before)) (sym (first_nonzero at.number (first_of rest) bad))

first_bad : (a b : ℕ) → (b ≡ 0 → ⊥) → first a b ≡ 0 → ⊥
first_bad zero b bad e = bad e
first_bad (suc a) b bad e = absurd (omega arith)

-- what is said of one envelope: its number is that of its payload
record Decided (x : Piece) (before : List Place) (at : Place) : Type 0 where
  is : x.number ≡ first (first_of before) at.number
  some : x.number ≡ 0 → ⊥

sure_decided : (x : Piece) → Sure x → (before : List Place) (at : Place) (rest : List Place) → at.fits ≡ false → x.places ≡ before ++ (at ∷ rest) → Decided x before at
sure_decided x sure before at rest unfit same =
    let bad = there before at rest (subst (Each Outside) same sure.outside) unfit in
    let is : x.number ≡ first (first_of before) at.number = sure.order ∙ ap first_of same ∙ decided before at rest bad in
    record { is = is; some = λ e. first_bad (first_of before) at.number bad (sym is ∙ e) }

-- an envelope that is not too long, with a test after all others
enveloped_number : (x : Piece) (version minimum n k : ℕ) → 8 + x.long ≤ ceiling → x.number ≡ k → (k ≡ 0 → ⊥) → (tested_last (enveloped version minimum x) n).number ≡ k
enveloped_number x version minimum n k short is some = rw (le-leb (8 + x.long) ceiling short, is) (sym (first_nonzero k n some))

enveloped_decided : (x : Piece) (version minimum n : ℕ) → Sure x → (before : List Place) (at : Place) (rest : List Place) → at.fits ≡ false → x.places ≡ before ++ (at ∷ rest)
    → 8 + x.long ≤ ceiling → (tested_last (enveloped version minimum x) n).number ≡ first (first_of before) at.number
enveloped_decided x version minimum n sure before at rest unfit same short =
    let d = sure_decided x sure before at rest unfit same in
    enveloped_number x version minimum n _ short d.is (λ e. d.some (d.is ∙ e))

-- two envelopes that are each decided so
agreed : (x y : Piece) → AgreeUpTo x y
    → ((before : List Place) (at : Place) (rest : List Place) → at.fits ≡ false → x.places ≡ before ++ (at ∷ rest) → x.long ≤ ceiling → x.number ≡ first (first_of before) at.number)
    → ((before : List Place) (at : Place) (rest : List Place) → at.fits ≡ false → y.places ≡ before ++ (at ∷ rest) → y.long ≤ ceiling → y.number ≡ first (first_of before) at.number)
    → x.number ≡ y.number
agreed x y a f g =
    f a.before a.at a.after_first a.unfit a.first a.first_short ∙ sym (g a.before a.at a.after_second a.unfit a.second a.second_short)

pub header_up_to : HeaderUpTo
unfolding HeaderUpTo header_piece
header_up_to strings strings' named named' t t' a =
    agreed _ _ a
    (enveloped_decided (payload_piece strings named t) 1 1 (chains t.fields) (payload_sure strings named t))
    (enveloped_decided (payload_piece strings' named' t') 1 1 (chains t'.fields) (payload_sure strings' named' t'))

-- footers have no test after all others
footer_decided : (checksum file : ℕ) (f : Footer) → all_as_carried (carries_for f.clusters) f.clusters ≡ true → (before : List Place) (at : Place) (rest : List Place)
    → at.fits ≡ false → (footer_piece checksum file f).places ≡ before ++ (at ∷ rest) → (footer_piece checksum file f).long ≤ ceiling
    → (footer_piece checksum file f).number ≡ first (first_of before) at.number
unfolding footer_piece
footer_decided checksum file f alike before at rest unfit same short =
    let carried = carries_for f.clusters in
    let x = footer_payload_piece carried checksum file f in
    rw alike
    (sym (first_alone (enveloped (footer_version f.clusters) 1 x).number)
    ∙ enveloped_decided x (footer_version f.clusters) 1 0 (footer-sure carried checksum file f) before at rest unfit same short)

pub footer_up_to : FooterUpTo
unfolding FooterUpTo
footer_up_to checksum checksum' file file' f f' alike alike' a = agreed _ _ a (footer_decided checksum file f alike) (footer_decided checksum' file' f' alike')

pages_decided : (h : Header) (entries file : ℕ) (rows : List PageWords) → in_column_order (length h.lists.columns) 0 rows ≡ true → (before : List Place) (at : Place) (rest : List Place)
    → at.fits ≡ false → (page_list_piece h entries file rows).places ≡ before ++ (at ∷ rest) → (page_list_piece h entries file rows).long ≤ ceiling
    → (page_list_piece h entries file rows).number ≡ first (first_of before) at.number
unfolding page_list_piece
pages_decided h entries file rows order before at rest unfit same short =
    let n = length h.lists.columns in
    let bits = bits_of h.lists.columns in
    let x = counting_all n (length rows) (page_list_payload_piece file bits (by_column 0 n rows)) in
    rw order (enveloped_decided (tested_first true 14 x) 1 1 _ (ordered_sure file bits n rows order) before at rest unfit same short)

pub page_list_up_to : PageListUpTo
unfolding PageListUpTo
page_list_up_to h h' entries entries' file file' rows rows' order order' a =
    agreed _ _ a (pages_decided h entries file rows order) (pages_decided h' entries' file' rows' order')
