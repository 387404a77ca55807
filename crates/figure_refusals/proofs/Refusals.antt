-- What a call on a report can leave, and what follows for its refusals and its words.
-- Assumes nothing.
use Prim.Native.Nat.{ℕ, zero, suc, ◌+◌, ◌≤◌}
use mathlib.Core.Path.{◌≡◌, refl, sym, ap, ◌∙◌}
use mathlib.Core.Bool.{Bool, true, false}
use mathlib.Core.List.{List, [], ◌∷◌}
use native.Mathlib.Omega.{arith}
use lib.Dec.{ltb}
use lib.ListN.{length, drop}
use Rattle.numbers.specs.Choice.{pick}
use Rattle.wire.specs.Reading.{found}
use Rattle.header.specs.Header.{Header}
use Rattle.header.specs.Beside.{Beside, read, refusal}
use Rattle.rows.specs.declared.PageRow.{PageRow}
use Rattle.page_list.specs.PageList.{page_list_of}
use Rattle.page_list.specs.Tables.{page_list_beside}
use Rattle.refusals.specs.Refusals.{among, in_page_list, PageListNumbers, with_room, possible}
use Rattle.refusals.proofs.Naming.{among_more, included}
use Rattle.refusals.proofs.PageListNumbers.{page_list_numbers}
use Rattle.refusals.proofs.Refusals.{beside_byte, told, beside_any}
use Rattle.figure_rules.specs.declared.ListCounts.{ListCounts}
use Rattle.figure_rules.specs.Report.{outcome_of, Named, list_figures, added, sums_fit, rows_for, Report, not_counted, placed, taken, most_lists, reported}
use Rattle.figure_rules.proofs.Accepted.{read_beside_lem}
use Rattle.figure_rules.proofs.Adding.{added_length}
use Rattle.figure_rules.proofs.Figures.{figures_length}
use Rattle.figure_refusals.specs.Refusals.{in_report, Left, adds, header_refused, list_refused, turned_away, ReportLeft, of_report, ReportRefusals, ReportNamed, row_words, Stays, ReportStays}

module _ (counts : ListCounts) (old : List ℕ) where
  -- a test that gives way to a refusal of the report itself
  tested : {x : Beside (List (List PageRow))} (b : Bool) (n : ℕ) (r : Report) → among in_report n ≡ true → Left x counts old r → Left x counts old (pick b r (not_counted n counts old))
  tested true n r h l = l
  tested false n r h l = turned_away h

  -- a list too many comes first
  in_time : (x : Beside (List (List PageRow))) → Left x counts old (taken x counts old) → Left x counts old (reported x counts old)
  unfolding reported among
  in_time x l = tested (ltb (counts.accepted + counts.refused) most_lists) 10 (taken x counts old) refl l

  read_left : (pss : List (List PageRow)) → Left (read pss) counts old (taken (read pss) counts old)
  unfolding taken placed among
  read_left pss = tested (rows_for (length old) (length pss)) 20 _ refl (tested (sums_fit (list_figures pss) old) 10 _ refl (adds refl))

pub report_left : ReportLeft
unfolding ReportLeft PageListNumbers page_list_beside taken
report_left e l entries file counts old =
    beside_any (λ x. Left x counts old (reported x counts old)) 3 in_page_list (λ h. page_list_of h entries file l) (λ h. page_list_numbers h entries file l)
    (λ pss. in_time counts old (read pss) (read_left counts old pss))
    (λ f h. in_time counts old (refusal 1 f) (header_refused refl h))
    (λ f h. in_time counts old (refusal 3 f) (list_refused refl h)) e

-- which refusals

possible_left : {x : Beside (List (List PageRow))} {counts : ListCounts} {old : List ℕ} {r : Report} → Left x counts old r → possible of_report (outcome_of r.answer) ≡ true
unfolding among
possible_left (adds e) = refl
possible_left (header_refused e h) = h
possible_left (list_refused {f = f} e h) = among_more 20 in_page_list f.number h
possible_left (turned_away {r = n} h) = included (with_room in_page_list) in_report n refl h

pub report_refusals : ReportRefusals
unfolding ReportRefusals ReportLeft
report_refusals e l entries file counts old = told of_report (beside_byte 3 in_page_list refl) _ (possible_left (report_left e l entries file counts old))

named_left : {x : Beside (List (List PageRow))} {counts : ListCounts} {old : List ℕ} {r : Report} → Left x counts old r → Named r.answer
named_left (adds e) = tt
named_left (header_refused e h) = omega arith
named_left (list_refused e h) = omega arith
named_left (turned_away h) = omega arith

pub report_named : ReportNamed
unfolding ReportNamed ReportLeft
report_named e l entries file counts old = named_left (report_left e l entries file counts old)

-- which words stay

drop_added : (xs old : List ℕ) (n : ℕ) → length xs ≤ n → drop n (added xs old) ≡ drop n old
unfolding added
drop_added [] old n h = refl
drop_added (x ∷ xs) [] n h = refl
drop_added (x ∷ xs) (y ∷ ys) zero h = absurd (omega arith)
drop_added (x ∷ xs) (y ∷ ys) (suc n) h = drop_added xs ys n (omega arith)

untouched : (header old : List ℕ) (r : Report) → r.words ≡ old → Stays header old r
untouched header old r same =
    record { long = ap length same; refused = λ k n c e. same; beyond = λ h p e. ap (drop (row_words h)) same }

stays : (e l : List ℕ) (entries file : ℕ) {counts : ListCounts} {old : List ℕ} {r : Report} → Left (page_list_beside e l entries file) counts old r → Stays e old r
stays e l entries file {counts} {old} (adds {pss = pss} is) =
    let b = read_beside_lem e l entries file pss is in
    record {
      long = added_length (list_figures pss) old;
      refused = λ k n c w. let z : ◌≡◌ {A = ℕ} 0 1 = cc in absurd (omega arith);
      beyond = λ h p w.
          let same : b.tables ≡ h = let both : found b.tables b.place ≡ found h p = sym b.reads ∙ w in cc in
          let many : length pss ≡ length h.lists.columns = b.small.many ∙ ap (λ (t : Header). length t.lists.columns) same in
          drop_added (list_figures pss) old (row_words h) (omega (arith, figures_length pss, many));
    }
stays e l entries file {counts} {old} {r} (header_refused is h) = untouched e old r refl
stays e l entries file {counts} {old} {r} (list_refused is h) = untouched e old r refl
stays e l entries file {counts} {old} {r} (turned_away h) = untouched e old r refl

pub report_stays : ReportStays
unfolding ReportStays ReportLeft
report_stays e l entries file counts old = stays e l entries file (report_left e l entries file counts old)
