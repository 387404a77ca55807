-- The numbers that a page list can be refused with.
use Prim.Native.Nat.{ℕ, ◌+◌, ◌^◌}
use mathlib.Core.Path.{refl}
use mathlib.Core.Bool.{Bool}
use mathlib.Core.List.{List}
use lib.Dec.{eqb, leb, ltb}
use lib.ListN.{length}
use Rattle.rows.specs.Words.{most_columns}
use Rattle.wire.specs.Reading.{Step, found, refused}
use Rattle.envelope.specs.Envelope.{envelope}
use Rattle.header.specs.Header.{Lists}
use Rattle.rows.specs.declared.PageRow.{PageRow}
use Rattle.page_list.specs.PageList.{totals_of, agreed, total_fault, summed, page_list_of}
use Rattle.column_pages.specs.ColumnPages.{payload, bits_of, per_column, pages_after}
use Rattle.numbers.specs.Numbers.{bytes_for}
use Rattle.pages.specs.Pages.{elements_in, page_word, page, running_total, pages}
use Rattle.std.specs.Prelude.{Option, Some, None}
use Rattle.rows.specs.declared.FieldNumber.{FieldNumber}
use Rattle.refusals.specs.Refusals.{among, in_page_list, PageListNumbers}
use Rattle.refusals.proofs.Naming.{Named, Naming, named_found, named_refused, unless_judged, last_judged, naming_give, naming_bind, naming_tested, naming_located, naming_list, named_envelope}

naming_page : (file c bits : ℕ) → Naming in_page_list (page file c bits)
unfolding page among
naming_page file c bits =
    naming_bind _ _ (naming_tested refl 4 page_word (λ w. last_judged (ltb w (2 ^ 31)) 12 refl)) (λ word.
    naming_located refl file (bytes_for (elements_in word) bits) _ _ refl refl (λ size offset. naming_give _))

naming_pages : (strict : Bool) (file c bits sum : ℕ) → Naming in_page_list (pages strict file c bits sum)
unfolding pages among
naming_pages strict file c bits sum =
    naming_list refl strict (running_total sum) (λ _ _. page file c bits) (λ n. last_judged (leb (sum + n) 16384) 10 refl) (λ _ _. naming_page file c bits)

naming_payload : (file : ℕ) (bits : List ℕ) (strict : Bool) → Naming in_page_list (payload file bits strict)
unfolding payload among
naming_payload file bits strict =
    naming_list refl strict (per_column (length bits)) (λ _. pages_after strict file bits)
    (λ n. unless_judged (leb n most_columns) 10 _ refl (last_judged (eqb n (length bits)) 19 refl))
    (λ _ before. naming_pages strict file _ _ _)

named_summed : (entries : ℕ) (l : Lists) (x : Step (List (List PageRow))) → Named in_page_list x → Named in_page_list (summed entries l x)
unfolding summed among
named_summed entries l (found pss p) n =
    by (totals_of entries l pss)
  where
    by : (t : Option FieldNumber) → Named in_page_list (agreed t (found pss p))
    by None = named_found
    by (Some f) = named_refused {g = total_fault f.0} refl
named_summed entries l (refused f) n = n

pub page_list_numbers : PageListNumbers
unfolding PageListNumbers page_list_of among
page_list_numbers h entries file l =
    let bits = bits_of h.lists.columns in
    (named_summed entries h.lists (envelope 1 (payload file bits) l) (named_envelope refl 1 (payload file bits) (naming_payload file bits) l)).number
